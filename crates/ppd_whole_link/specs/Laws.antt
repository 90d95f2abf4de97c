-- That what is kept of linked events is what they came from.
use Rattle.std.specs.Prelude.{◌≡◌, ℕ, ◌<◌, ◌^◌, List, [], fold, get_or, length, slice_get, Option, Some, None}
use Rattle.std.specs.FinMap.{get}
use Rattle.ppd_ast.specs.declared.program.Program.{Program}
use Rattle.ppd_sem.specs.declared.event.Event.{Event}
use Rattle.law_flow.specs.Linked.{Linking, link_on, syncs_from, unlinked}
use Rattle.law_flow.specs.Writers.{mark_in, marks_of, own_write}
use Rattle.ppd_whole_link.specs.declared.linker.Linker.{Linker}
use Rattle.ppd_whole_link.specs.declared.marks.Marks.{Marks}
use Rattle.ppd_whole_link.specs.Linkers.{linker_after, own_in}
use Rattle.ppd_whole_link.specs.Marks.{marks_after}
use Rattle.ppd_whole_writes.specs.Writes.{key}
use Rattle.ppd_whole_link.specs.Runs.{follower_of}

-- process p after these events
abbrev pub linking_after : Program → ℕ → List Event → Linking
linking_after program p events = fold (link_on program p) (unlinked program p) events

-- it is followed, and the last write of each shared cell in an edge is that of its marks
pub record IsLinkerOf (x : Linking) (y : Linker) : Type 0 where
  pub follower : y.follower ≡ follower_of x.followed
  pub own : (c i : ℕ) → own_in i (get y.own c) ≡ own_write i (marks_of c x.past)

abbrev pub LinkersAreLinked : Type 0
LinkersAreLinked =
    (program : Program) (p : ℕ) (events : List Event)
    → IsLinkerOf (linking_after program p events) (linker_after program p events)

-- the last event of each edge that writes a cell, and the numbers of the synchronizations
pub record AreMarksOf (events : List Event) (x : Marks) : Type 0 where
  pub written : (c i : ℕ) → i < 2 ^ 32 → get x.written (key c i) ≡ mark_in i (marks_of c events)
  pub syncs : x.syncs ≡ syncs_from 0 events

abbrev pub MarksAreWriters : Type 0
MarksAreWriters = (events : List Event) → length events < 2 ^ 32 → AreMarksOf events (marks_after events)

abbrev pub AreMarksIf : List Event → Option Marks → Type 0
AreMarksIf events None = events ≡ []
AreMarksIf events (Some x) = AreMarksOf events x

-- so it is with the events of each process
abbrev pub AreAllMarks : List (List Event) → List Marks → Type 0
AreAllMarks events xs = (q : ℕ) → AreMarksIf (get_or events q []) (slice_get xs q)
