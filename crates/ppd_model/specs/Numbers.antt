-- The numbers of synchronizations: those of one kind and object go up by one, each once.
use Rattle.std.specs.Prelude.{◌≡◌, ℕ, ◌<◌, ◌≤◌, List, length, slice_get, Option, Some, None}
use Rattle.ppd_ast.specs.declared.status.SyncKind.{SyncKind}
use Rattle.ppd_ast.specs.declared.status.SyncKind.TheVariants.{P, V, Send, Recv, Done}
use Rattle.ppd_model.specs.declared.graph.NodeId.{NodeId}
use Rattle.ppd_model.specs.World.{World, Counts, Channel}
use Rattle.ppd_model.specs.Synchronizations.{Sync}
use Rattle.ppd_model.specs.HappenedBefore.{sync_at}

-- a count for each kind and object
abbrev pub Counting : Type 0
Counting = SyncKind → ℕ → ℕ

-- the count of an object, and 0 where there is none
abbrev pub count_in : {A : Type 0} → (A → ℕ) → Option A → ℕ
count_in count None = 0
count_in count (Some x) = count x

-- how many there are in a world, of the `V`s with the semaphore's initial value
abbrev pub count_of : World → Counting
count_of w P o = count_in (λ (x : Counts). x.taken) (slice_get w.sems o)
count_of w V o = count_in (λ (x : Counts). x.given) (slice_get w.sems o)
count_of w Send o = count_in (λ (x : Channel). length x.sent) (slice_get w.chans o)
count_of w Recv o = count_in (λ (x : Channel). x.received) (slice_get w.chans o)
count_of w Done o = count_in (λ (x : Channel). x.completed) (slice_get w.chans o)

-- the synchronization of this kind, object and number
abbrev pub sync : SyncKind → ℕ → ℕ → Sync
sync kind object number = record { kind = kind; object = object; number = number }

-- the synchronizations have the numbers after the first counts through the last ones, each once
pub record IsCounted (first count : Counting) (syncs : List (List Sync)) : Type 0 where
  pub begun : (kind : SyncKind) (object : ℕ) → first kind object ≤ count kind object
  pub numbers : (a : NodeId) (s : Sync) → sync_at syncs a ≡ Some s
      → (first s.kind s.object < s.number) × (s.number ≤ count s.kind s.object)
  pub found : (kind : SyncKind) (object number : ℕ) → first kind object < number → number ≤ count kind object
      → (a : NodeId) × (sync_at syncs a ≡ Some (sync kind object number))
  pub once : (a b : NodeId) (s : Sync) → sync_at syncs a ≡ Some s → sync_at syncs b ≡ Some s → a ≡ b
