-- Where the events of a process last wrote a shared cell in each internal edge, and which event wrote what is read.
use Rattle.std.specs.Prelude.{ℕ, ◌+◌, nat_eq, Bool, ◌&&◌, List, [], ◌∷◌, find, fold, get_or, Option, Some, None, is_none, is_some, option_map, unwrap_or, if◌then◌else◌}
use Rattle.ppd_ast.specs.declared.program.Program.{Program}
use Rattle.ppd_model.specs.declared.entry.Logs.{Logs}
use Rattle.ppd_sem.specs.declared.event.Event.{Event}
use Rattle.ppd_model.specs.declared.graph.EdgeId.{EdgeId}
use Rattle.ppd_model.specs.declared.trace.EventId.{EventId}
use Rattle.ppd_model.specs.HappenedBefore.{edge}
use Rattle.ppd_graph.specs.Shared.{greatest_before}
use Rattle.ppd_graph.specs.Walk.{value_to}
use Rattle.law_flow.specs.Following.{edge_past}

-- ---- marks

-- the last write of a cell in an edge: the edge, and the event's number
pub record Mark : Type 0 where
  pub edge : ℕ
  pub number : ℕ

-- one more write, after these, the last first: of each edge the last one is kept
abbrev pub marked : Mark → List Mark → List Mark
marked new [] = new ∷ []
marked new (m ∷ ms) = if nat_eq m.edge new.edge then new ∷ ms else new ∷ m ∷ ms

-- the marks of one cell so far, with the number and the edge of the next event
pub record Marking : Type 0 where
  pub marks : List Mark
  pub number : ℕ
  pub edge : ℕ

-- the event, which is no synchronization, writes shared cell c
abbrev pub writes : ℕ → Event → Bool
writes c e = is_none e.number && is_some (value_to c e.writes)

-- one more event
abbrev pub mark_event : ℕ → Marking → Event → Marking
mark_event c x e = record {
  marks = if writes c e then marked (record { edge = x.edge; number = x.number }) x.marks else x.marks;
  number = x.number + 1;
  edge = edge_past x.edge e.number;
}

-- before the first event
abbrev pub unmarked : Marking
unmarked = record { marks = []; number = 0; edge = 0 }

-- the marks of cell c that these events of a process leave, the last first
abbrev pub marks_of : ℕ → List Event → List Mark
marks_of c events = (fold (mark_event c) unmarked events).marks

-- ---- a read

-- the last mark, if it is of this edge
abbrev pub own_write : ℕ → List Mark → Option ℕ
own_write i [] = None
own_write i (m ∷ ms) = if nat_eq m.edge i then Some m.number else None

-- the mark of this edge
abbrev pub mark_in : ℕ → List Mark → Option ℕ
mark_in i ms = option_map (λ m. m.number) (find (λ m. nat_eq m.edge i) ms)

-- the last event of edge a that writes cell c, and event 0 where there is none
abbrev pub written_in : List (List Event) → ℕ → EdgeId → EventId
written_in events c a =
    record { process = a.process; number = unwrap_or (mark_in a.edge (marks_of c (get_or events a.process []))) 0 }

-- the last own write in the edge, else the one of another edge
abbrev pub writer_from : ℕ → Option ℕ → Option EventId → Option EventId
writer_from p (Some n) across = Some (record { process = p; number = n })
writer_from p None across = across

-- the event that wrote cell c for a read in edge i of process p, whose own marks so far are these: its last own write
-- in that edge, else the last write in the greatest edge before it whose recorded write set has the cell
abbrev pub shared_writer : Program → Logs → List (List Event) → ℕ → ℕ → ℕ → List Mark → Option EventId
shared_writer program logs events p i c own =
    writer_from p (own_write i own) (option_map (written_in events c) (greatest_before program logs (edge p i) c))
