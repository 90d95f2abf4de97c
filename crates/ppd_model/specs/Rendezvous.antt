-- Channels of capacity 0: the counts of a channel, what a completion leads to and comes from, and that
-- an offer and its completion are the steps of one statement, one straight after the other.
use Rattle.ppd_model.specs.Setting.{Setting}
use Rattle.std.specs.Prelude.{◌≡◌, ℕ, ◌+◌, ◌≤◌, ℤ, ◌⊎◌, ◌↔◌, IsTrue, List, [], ◌∷◌, ◌++◌, length, slice_get, Option, Some, get_or}
use Rattle.ppd_ast.specs.declared.program.Program.{Program}
use Rattle.ppd_ast.specs.declared.status.SyncKind.TheVariants.{Send, Recv, Done}
use Rattle.ppd_sem.specs.declared.proc.Need.TheVariants as need
use Rattle.ppd_sem.specs.Tables.{capacity_of}
use Rattle.ppd_sem.specs.Passed.{next_stmt_of}
use Rattle.ppd_model.specs.declared.graph.NodeId.{NodeId}
use Rattle.ppd_model.specs.World.{World, Channel}
use Rattle.ppd_model.specs.Schedule.{run}
use Rattle.ppd_model.specs.Story.{Taken, story}
use Rattle.ppd_model.specs.States.{state_of}
use Rattle.ppd_model.specs.Synchronizations.{Sync, leads_at}
use Rattle.ppd_model.specs.Record.{sync_record}
use Rattle.ppd_model.specs.HappenedBefore.{sync_at}
use Rattle.ppd_model.specs.Numbers.{sync}

-- ---- counts

-- completions never exceed receives, receives never exceed sends, and on a channel of capacity 0 sends
-- never exceed the completions by more than one
pub record IsInTurn (x : Channel) : Type 0 where
  pub completed : x.completed ≤ x.received
  pub received : x.received ≤ length x.sent
  pub offered : x.capacity ≡ 0 → length x.sent ≤ x.completed + 1

-- so it is with each channel after each schedule
abbrev pub ChannelsAreInTurn : Type 0
ChannelsAreInTurn =
    (setting : Setting) (h : List ℕ) (w : World) (c : ℕ) (x : Channel)
    → run setting h ≡ Some w → slice_get w.chans c ≡ Some x → IsInTurn x

-- ---- pairs

-- completion k leads to the send k + 1 of its channel, of capacity 0, and to nothing else
abbrev pub CompletionsLead : Type 0
CompletionsLead =
    (program : Program) (k o : ℕ) (b : Sync)
    → IsTrue (leads_at program (Some (sync Done o k)) (Some b))
    ↔ ((capacity_of program o ≡ 0) × (b ≡ sync Send o (k + 1)))

-- to completion k leads receive k of its channel, of capacity 0, and nothing else
abbrev pub CompletionsAreLedTo : Type 0
CompletionsAreLedTo =
    (program : Program) (k o : ℕ) (a : Sync)
    → IsTrue (leads_at program (Some a) (Some (sync Done o k))) ↔ ((capacity_of program o ≡ 0) × (a ≡ sync Recv o k))

-- in a schedule each completion has its receive
abbrev pub CompletionsAreReceived : Type 0
CompletionsAreReceived =
    (setting : Setting) (h : List ℕ) (w : World) (k o : ℕ) (b : NodeId)
    → run setting h ≡ Some w
    → sync_at (sync_record setting h) b ≡ Some (sync Done o k)
    → (a : NodeId) × (sync_at (sync_record setting h) a ≡ Some (sync Recv o k))

-- ---- one statement, two steps

-- the statement that process p is at after these steps
abbrev pub statement_after : Setting → ℕ → List Taken → Option ℕ
statement_after setting p steps = next_stmt_of (state_of setting p steps).todo

-- step y is the completion of the offer that step x took just before it, and both are of one statement
pub record Completes (setting : Setting) (p : ℕ) (before : List Taken) (x y : Taken)
    (c : ℕ) : Type 0 where
  pub value : ℤ
  pub unit : ℕ
  pub stmt : ℕ
  pub offer : x.need ≡ need.Offer c value
  pub done : y.need ≡ need.Done c unit
  pub offered_at : statement_after setting p before ≡ Some stmt
  pub completed_at : statement_after setting p (before ++ x ∷ []) ≡ Some stmt

-- after an offer the process completes it, or stops for its budget
abbrev pub OffersAreCompleted : Type 0
OffersAreCompleted =
    (setting : Setting) (h : List ℕ) (p : ℕ) (before : List Taken) (x y : Taken)
    (after : List Taken) (c : ℕ) (v : ℤ)
    → get_or (story setting h).steps p [] ≡ before ++ x ∷ y ∷ after → x.need ≡ need.Offer c v
    → Completes setting p before x y c ⊎ (y.need ≡ need.Budget)

-- before a completion the process took its offer
abbrev pub CompletionsWereOffered : Type 0
CompletionsWereOffered =
    (setting : Setting) (h : List ℕ) (p : ℕ) (before : List Taken) (y : Taken)
    (after : List Taken) (c u : ℕ)
    → get_or (story setting h).steps p [] ≡ before ++ y ∷ after → y.need ≡ need.Done c u
    → (earlier : List Taken) × (x : Taken) × (before ≡ earlier ++ x ∷ [])
    × Completes setting p earlier x y c
