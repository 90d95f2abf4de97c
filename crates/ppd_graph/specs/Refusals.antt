-- Why logs have no graph, the first reason in order.
use Rattle.ppd_ast.specs.Members.{has}
use Rattle.ppd_ast.specs.declared.program.Program.{Program}
use Rattle.ppd_ast.specs.declared.status.SyncKind.{SyncKind}
use Rattle.ppd_ast.specs.declared.status.SyncKind.TheVariants.{Done, P, Recv, Send, V}
use Rattle.ppd_model.specs.Entries.{same_kind}
use Rattle.ppd_model.specs.declared.entry.At.{At}
use Rattle.ppd_model.specs.declared.entry.Entry.{Entry}
use Rattle.ppd_model.specs.declared.entry.Logs.{Logs}
use Rattle.ppd_graph.specs.Cycles.{IsCycle}
use Rattle.ppd_graph.specs.declared.missing.Objects.{Objects}
use Rattle.ppd_graph.specs.declared.missing.Objects.TheVariants.{Channels, Semaphores}
use Rattle.ppd_graph.specs.declared.placed.Placed.{Placed}
use Rattle.ppd_model.specs.declared.bad_sync.BadSync.{BadSync}
use Rattle.ppd_model.specs.declared.bad_sync.BadSync.TheVariants.{Cycle, Memory, NoObject, NumberMissing, NumberTwice}
use Rattle.ppd_model.specs.HappenedBefore.{is_before, node}
use Rattle.ppd_model.specs.Numbers.{sync}
use Rattle.ppd_model.specs.RecordedSets.{record_in, sync_in}
use Rattle.ppd_model.specs.SameSyncs.{same_sync}
use Rattle.ppd_model.specs.Synchronizations.{Sync}
use Rattle.ppd_model.specs.Tables.{capacity_of}
use Rattle.ppd_model.specs.declared.graph.NodeId.{NodeId}
use Rattle.std.specs.List.{enumerate_from, flat_map, list_any, range_with_len}
use Rattle.std.specs.Option.{option_map_or, option_or as or_else}
use Rattle.std.specs.Prelude.{Bool, List, None, Option, Some, [], false, filter_map, find, fold, if◌then◌else◌, is_some, length, map, max, nat_eq, nat_le, nat_lt, not, option_map, option_to_list, slice_get, suc, zero, ℕ, ⊤, ◌&&◌, ◌++◌, ◌+◌, ◌-◌, ◌||◌, ◌∷◌, ◌≡◌}

-- ---- the synchronizations with their places

-- the synchronization itself
abbrev pub sync_placed : Placed → Sync
sync_placed x = sync x.kind x.object x.number

-- those among the entries of process p from entry e and synchronization i on
abbrev pub placed_from : ℕ → ℕ → ℕ → List Entry → List Placed
placed_from p e i [] = []
placed_from p e i (x ∷ xs) =
    option_to_list (option_map
    (λ s. record {
      at = record { process = p; entry = e };
      node = node p i;
      kind = s.kind;
      object = s.object;
      number = s.number;
    })
    (sync_in x))
    ++ placed_from p (e + 1) (if is_some (sync_in x) then i + 1 else i) xs

-- all synchronizations of logs, in order of process and entry
abbrev pub placed : Logs → List Placed
placed logs = flat_map (λ e. placed_from e.0 0 0 e.1) (enumerate_from 0 logs.lists)

-- ---- no object

-- the program has an object of this kind: a semaphore, or a channel; only one of capacity 0 has completions
abbrev pub has_object : Program → SyncKind → ℕ → Bool
has_object program P o = nat_lt o (length program.sems)
has_object program V o = nat_lt o (length program.sems)
has_object program Send o = nat_lt o (length program.chans)
has_object program Recv o = nat_lt o (length program.chans)
has_object program Done o = nat_lt o (length program.chans) && nat_eq (capacity_of program o) 0

-- the place of the first synchronization without its object
abbrev pub without_object : Program → List Placed → Option At
without_object program [] = None
without_object program (x ∷ xs) = if has_object program x.kind x.object then without_object program xs else Some x.at

-- ---- a number twice

-- the initial value of semaphore s
abbrev pub start_of : Program → ℕ → ℕ
start_of program s = option_map_or (λ x. x.start) (slice_get program.sems s) 0

-- a `V` whose number the semaphore has from the start
abbrev pub is_from_start : Program → Sync → Bool
is_from_start program s = same_kind s.kind V && nat_le s.number (start_of program s.object)

-- the place of the first synchronization whose number stood before, or is one from the start
abbrev pub twice_after : Program → List Sync → List Placed → Option At
twice_after program seen [] = None
twice_after program seen (x ∷ xs) =
    if list_any (same_sync (sync_placed x)) seen || is_from_start program (sync_placed x) then Some x.at
    else twice_after program (sync_placed x ∷ seen) xs

-- ---- a missing number

-- the numbers of this kind and object
abbrev pub numbers_of : SyncKind → ℕ → List Sync → List ℕ
numbers_of kind object syncs =
    filter_map (λ s. if same_kind s.kind kind && nat_eq s.object object then Some s.number else None) syncs

-- the first of the numbers after `first` through `last` that is not there
abbrev pub absent : ℕ → ℕ → (ℕ → Bool) → Option ℕ
absent first last is_there = find (λ n. not (is_there n)) (range_with_len (first + 1) (last - first))

-- what is missing: a kind, an object and a number
abbrev pub Missing : Type 0
Missing = SyncKind × ℕ × ℕ

abbrev pub of_kind : SyncKind → ℕ → Option ℕ → Option Missing
of_kind kind object None = None
of_kind kind object (Some n) = Some (kind, object, n)

-- the synchronizations of one kind and object: which numbers are there, and the greatest of them
pub record Numbered : Type 0 where
  pub is_there : ℕ → Bool
  pub greatest : ℕ

-- of a channel with this capacity: what a send finds no place without; of one without places, what it waits for is the
-- completion before it
abbrev pub missing_of_places : ℕ → ℕ → ℕ → ℕ → Numbered → Option Missing
missing_of_places zero o s r completed =
    let d = completed.greatest in
    or_else (of_kind Recv o (if nat_lt r d then Some (r + 1) else None))
    (or_else (of_kind Done o (absent 0 d completed.is_there))
    (of_kind Done o (if nat_lt (d + 1) s then Some (d + 1) else None)))
missing_of_places (suc c) o s r completed = of_kind Recv o (if nat_lt (r + suc c) s then Some (r + 1) else None)

-- the first of these objects at which something is missing
abbrev pub first_missing : (ℕ → Option Missing) → List ℕ → Option Missing
first_missing f [] = None
first_missing f (o ∷ os) = or_else (f o) (first_missing f os)

-- how many objects of a sort the program has
abbrev pub object_count : Objects → Program → ℕ
object_count Semaphores program = length program.sems
object_count Channels program = length program.chans

-- what is missing of one of them, by the first that is: of a semaphore, whose initial value counts as given, what was
-- taken, what was given, and what the greatest taken waited for; of a channel what was sent, also for the greatest
-- received, what was received, and what a send finds no place without
abbrev pub object_misses : Objects → Program → (SyncKind → ℕ → Numbered) → ℕ → Option Missing
object_misses Semaphores program numbered o =
    let a = (numbered P o).greatest in
    let b = max (start_of program o) (numbered V o).greatest in
    or_else (of_kind P o (absent 0 a (numbered P o).is_there))
    (or_else (of_kind V o (absent (start_of program o) b (numbered V o).is_there))
    (of_kind V o (if nat_lt b a then Some (b + 1) else None)))
object_misses Channels program numbered o =
    let s = (numbered Send o).greatest in
    let r = (numbered Recv o).greatest in
    or_else (of_kind Send o (absent 0 s (numbered Send o).is_there))
    (or_else (of_kind Send o (if nat_lt s r then Some (s + 1) else None))
    (or_else (of_kind Recv o (absent 0 r (numbered Recv o).is_there))
    (missing_of_places (capacity_of program o) o s r (numbered Done o))))

-- the first missing synchronization, semaphores before channels
abbrev pub missing_by : Program → (SyncKind → ℕ → Numbered) → Option Missing
missing_by program numbered =
    or_else
    (first_missing (object_misses Semaphores program numbered) (range_with_len 0 (length program.sems)))
    (first_missing (object_misses Channels program numbered) (range_with_len 0 (length program.chans)))

-- the same by the numbers of each kind and object among these
abbrev pub missing : Program → List Sync → Option Missing
missing program syncs =
    missing_by program
    (λ kind object.
    record { is_there = has (numbers_of kind object syncs); greatest = fold max 0 (numbers_of kind object syncs) })

-- ---- the first reason

-- the first three tests pass
pub record AreNumbered (program : Program) (syncs : List Placed) : Type 0 where
  pub objects : without_object program syncs ≡ None
  pub once : twice_after program [] syncs ≡ None
  pub complete : missing program (map sync_placed syncs) ≡ None

-- this is the first of the three tests that fails
abbrev pub IsRefusedFor : Program → List Placed → BadSync → Type 0
IsRefusedFor program syncs (NoObject at) = without_object program syncs ≡ Some at
IsRefusedFor program syncs (NumberTwice at) =
    (without_object program syncs ≡ None) × (twice_after program [] syncs ≡ Some at)
IsRefusedFor program syncs (NumberMissing kind object number) =
    (without_object program syncs ≡ None) × (twice_after program [] syncs ≡ None)
    × (missing program (map sync_placed syncs) ≡ Some (kind, object, number))
IsRefusedFor program syncs (Cycle nodes) = ⊥
IsRefusedFor program syncs Memory = ⊤

-- this is the first reason why the logs have no graph
abbrev pub IsRefused : Program → Logs → BadSync → Type 0
IsRefused program logs (Cycle nodes) = AreNumbered program (placed logs) × IsCycle program (record_in logs) nodes
IsRefused program logs e = IsRefusedFor program (placed logs) e

-- the logs have a graph: the tests pass, and nothing happens before itself
pub record AreOrdered (program : Program) (logs : Logs) : Type 0 where
  pub numbered : AreNumbered program (placed logs)
  pub acyclic : (a : NodeId) → is_before program (record_in logs) a a ≡ false
