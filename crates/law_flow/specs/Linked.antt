-- The events of all processes, each with the writers of what it read, its control parent and its pair, by one pass over
-- the events of each process.
use Rattle.std.specs.Prelude.{ℕ, zero, suc, ◌+◌, List, [], ◌∷◌, ◌++◌, map, get_or, Option, Some, None, is_some, if◌then◌else◌}
use Rattle.ppd_ast.specs.declared.program.Program.{Program}
use Rattle.ppd_model.specs.declared.entry.Logs.{Logs}
use Rattle.ppd_graph.specs.declared.paired.Paired.{Paired}
use Rattle.ppd_graph.specs.declared.paired.Paired.TheVariants.{Nothing, Initial, Node}
use Rattle.ppd_graph.specs.Partners.{pairs_of}
use Rattle.ppd_graph.specs.Times.{pair_at}
use Rattle.ppd_sem.specs.declared.event.Access.{Access}
use Rattle.ppd_sem.specs.declared.event.Event.{Event}
use Rattle.ppd_sem.specs.declared.event.Spot.{Spot}
use Rattle.ppd_sem.specs.declared.event.Spot.TheVariants.{Local, Shared}
use Rattle.ppd_model.specs.declared.trace.EventId.{EventId}
use Rattle.ppd_model.specs.declared.trace.Trace.{Trace}
use Rattle.ppd_model.specs.declared.trace.TracedEvent.{TracedEvent}
use Rattle.ppd_model.specs.FullTrace.{Tag, top_tags}
use Rattle.ppd_model.specs.HappenedBefore.{node}
use Rattle.ppd_model.specs.RecordedSets.{record_in}
use Rattle.ppd_graph.specs.Seen.{Seen}
use Rattle.law_flow.specs.Following.{Followed, begun, follow, parent_of}
use Rattle.law_flow.specs.Joined.{events_in}
use Rattle.law_flow.specs.Writers.{marks_of, shared_writer}

-- ---- pairs

-- the numbers of the events that are synchronizations, from number n on
abbrev pub syncs_from : ℕ → List Event → List ℕ
syncs_from n [] = []
syncs_from n (e ∷ es) = if is_some e.number then n ∷ syncs_from (n + 1) es else syncs_from (n + 1) es

-- the event that is synchronization i of process q
abbrev pub sync_event : List (List Event) → ℕ → ℕ → EventId
sync_event events q i = record { process = q; number = get_or (syncs_from 0 (get_or events q [])) i 0 }

abbrev pub pair_tag : List (List Event) → Paired → Tag
pair_tag events Nothing = None
pair_tag events Initial = None
pair_tag events (Node a) = Some (sync_event events a.process a.sync)

-- what leads to the event, if it is the synchronization that ends edge i of process p
abbrev pub pair_of : Program → Logs → List (List Event) → ℕ → ℕ → Option ℕ → Tag
pair_of program logs events p i None = None
pair_of program logs events p i (Some n) = pair_tag events (pair_at (pairs_of program (record_in logs)) (node p i))

-- ---- one event

-- a process that is followed, with its events so far
pub record Linking : Type 0 where
  pub followed : Followed
  pub past : List Event

abbrev pub spot_writer : Program → Logs → List (List Event) → ℕ → Linking → Spot → Tag
spot_writer program logs events p x (Local frame c) = get_or (top_tags x.followed.activations) c None
spot_writer program logs events p x (Shared c) =
    shared_writer program logs events p x.followed.edge c (marks_of c x.past)

abbrev pub read_writer : Program → Logs → List (List Event) → ℕ → Linking → Access → Tag
read_writer program logs events p x a = spot_writer program logs events p x a.spot

-- an event with what it came from
abbrev pub linked : Program → Logs → List (List Event) → ℕ → Linking → Event → TracedEvent
linked program logs events p x e = record {
  event = e;
  writers = map (read_writer program logs events p x) e.reads;
  parent = parent_of program x.followed.activations e.stmt;
  paired = pair_of program logs events p x.followed.edge e.number;
}

abbrev pub link_on : Program → ℕ → Linking → Event → Linking
link_on program p x e = record { followed = follow program p x.followed e; past = x.past ++ e ∷ [] }

-- these events of process p, one after the other
abbrev pub link_from : Program → Logs → List (List Event) → ℕ → Linking → List Event → List TracedEvent
link_from program logs events p x [] = []
link_from program logs events p x (e ∷ es) =
    linked program logs events p x e ∷ link_from program logs events p (link_on program p x e) es

-- before the first event of process p
abbrev pub unlinked : Program → ℕ → Linking
unlinked program p = record { followed = begun program p; past = [] }

-- ---- all processes

-- the events of the processes from number p on
abbrev pub links_from : Program → Logs → List (List Event) → ℕ → List (List Event) → List (List TracedEvent)
links_from program logs events p [] = []
links_from program logs events p (es ∷ rest) =
    link_from program logs events p (unlinked program p) es ∷ links_from program logs events (p + 1) rest

-- the trace that the events of all processes make
abbrev pub linked_trace : Program → Logs → List (List Event) → Trace
linked_trace program logs events = record { events = links_from program logs events 0 events }

-- and the items of all processes
abbrev pub joined_trace : Program → Logs → List Seen → Trace
joined_trace program logs xs = linked_trace program logs (map events_in xs)
