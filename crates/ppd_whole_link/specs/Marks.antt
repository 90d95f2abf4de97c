-- Which event of a process last wrote each shared cell in each internal edge, and which events are synchronizations.
use Rattle.std.specs.Prelude.{ℕ, ◌+◌, List, [], ◌∷◌, ◌++◌, fold, Option, Some, None}
use Rattle.std.specs.FinMap.{empty}
use Rattle.ppd_sem.specs.declared.event.Event.{Event}
use Rattle.law_flow.specs.Following.{edge_past}
use Rattle.ppd_whole_link.specs.declared.marks.Marks.{Marks}
use Rattle.ppd_whole_writes.specs.Writes.{Written, written_past}

abbrev pub syncs_past : Option ℕ → ℕ → List ℕ → List ℕ
syncs_past (Some number) n syncs = syncs ++ n ∷ []
syncs_past None n syncs = syncs

-- one more event
abbrev pub mark_event : Marks → Event → Marks
mark_event x e = record {
  written = written_past e.number x.edge x.number e.writes x.written;
  syncs = syncs_past e.number x.number x.syncs;
  number = x.number + 1;
  edge = edge_past x.edge e.number;
}

-- before the first event
abbrev pub no_marks : Marks
no_marks = record { written = empty; syncs = []; number = 0; edge = 0 }

-- what these events of a process leave
abbrev pub marks_after : List Event → Marks
marks_after events = fold mark_event no_marks events

-- ---- of all processes

abbrev pub written_if : Option Marks → Written
written_if None = empty
written_if (Some x) = x.written

abbrev pub syncs_if : Option Marks → List ℕ
syncs_if None = []
syncs_if (Some x) = x.syncs
