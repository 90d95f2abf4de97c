-- The flowback edges of an item, all of them in order, with the intervals that are replayed to find them.
use Rattle.std.specs.Prelude.{ℕ, List, [], ◌∷◌, ◌++◌, slice_get, Option, Some, None, Result, Ok, Err, get_or}
use Rattle.ppd_ast.specs.declared.plan.Plan.{Plan}
use Rattle.ppd_ast.specs.declared.program.Program.{Program}
use Rattle.ppd_graph.specs.Logs.{Logs}
use Rattle.ppd_sem.specs.declared.event.Access.{Access}
use Rattle.ppd_sem.specs.declared.event.Event.{Event}
use Rattle.ppd_sem.specs.declared.event.Spot.{Spot}
use Rattle.ppd_sem.specs.declared.event.Spot.TheVariants.{Local, Shared}
use Rattle.ppd_sem.specs.Blocks.{block_kind}
use Rattle.ppd_model.specs.declared.flow.EdgeKind.TheVariants.{Sync, Control}
use Rattle.ppd_model.specs.declared.flow.FlowEdge.{FlowEdge}
use Rattle.ppd_model.specs.declared.flow.Item.{Item}
use Rattle.ppd_model.specs.declared.flow.Item.TheVariants as item
use Rattle.ppd_model.specs.declared.flow.Origin.{Origin}
use Rattle.ppd_model.specs.FlowbackEdges.{bare_edge}
use Rattle.ppd_graph.specs.Control.{control_origin}
use Rattle.ppd_graph.specs.Locals.{local_origin}
use Rattle.ppd_graph.specs.Looked.{Looked, known, look_map, look_then, after_replay}
use Rattle.ppd_graph.specs.Own.{edges_of_nested, read_from}
use Rattle.ppd_graph.specs.Shared.{Missing, in_process, pair_origin, seen_at, shared_origin}
use Rattle.ppd_graph.specs.Seen.{Seen}

-- ---- reads

-- where the spot was written that is read at place j of interval k of process p
abbrev pub read_origin : Program → Plan → Logs → List Seen → ℕ → ℕ → ℕ → Spot
    → Looked (ℕ × ℕ) (Result Origin Missing)
read_origin program plan logs xs p k j (Local frame c) =
    look_map (λ from. Ok from) (in_process p (local_origin program plan (seen_at xs p) p k j frame c))
read_origin program plan logs xs p k j (Shared c) = shared_origin program logs xs p k j c

-- from the origin of what is read, if its write is not missing
abbrev pub read_if : Access → Result Origin Missing → Result FlowEdge Missing
read_if a (Ok from) = Ok (read_from a from)
read_if a (Err m) = Err m

-- the edge of a read there, whose spot is this
abbrev pub read_edge : Program → Plan → Logs → List Seen → ℕ → ℕ → ℕ → Access → Spot
    → Looked (ℕ × ℕ) (Result FlowEdge Missing)
read_edge program plan logs xs p k j a spot = look_map (read_if a) (read_origin program plan logs xs p k j spot)

-- this edge and those, if no write of theirs is missing
abbrev pub with_edge : FlowEdge → Result (List FlowEdge) Missing → Result (List FlowEdge) Missing
with_edge e (Ok es) = Ok (e ∷ es)
with_edge e (Err m) = Err m

-- an edge and those after it, or the first write that is missing: no more is looked for then
abbrev pub before_others : Result FlowEdge Missing → Looked (ℕ × ℕ) (Result (List FlowEdge) Missing)
    → Looked (ℕ × ℕ) (Result (List FlowEdge) Missing)
before_others (Ok e) others = look_map (with_edge e) others
before_others (Err m) others = known (Err m)

-- one for each read, in order
abbrev pub read_edges : Program → Plan → Logs → List Seen → ℕ → ℕ → ℕ → List Access
    → Looked (ℕ × ℕ) (Result (List FlowEdge) Missing)
read_edges program plan logs xs p k j [] = known (Ok [])
read_edges program plan logs xs p k j (a ∷ as') =
    look_then (read_edge program plan logs xs p k j a a.spot) (λ e. before_others e
    (read_edges program plan logs xs p k j as'))

-- ---- synchronization

abbrev pub pair_edges : Option Origin → List FlowEdge
pair_edges None = []
pair_edges (Some from) = bare_edge Sync from ∷ []

-- one where the event has a number and a pair
abbrev pub sync_edges : Program → Logs → List Seen → ℕ → ℕ → ℕ → Option ℕ → Looked (ℕ × ℕ) (List FlowEdge)
sync_edges program logs xs p k j None = known []
sync_edges program logs xs p k j (Some number) = look_map pair_edges (pair_origin program logs xs p k j)

-- ---- an item

-- these edges and then more, or the write that is missing: no more is looked for then
abbrev pub and_more : Result (List FlowEdge) Missing → Looked (ℕ × ℕ) (List FlowEdge)
    → Looked (ℕ × ℕ) (Result (List FlowEdge) Missing)
and_more (Ok es) more = look_map (λ fs. Ok (es ++ fs)) more
and_more (Err m) more = known (Err m)

-- after those of the reads: the synchronization, and then control
abbrev pub last_edges : Program → Plan → Logs → List Seen → ℕ → ℕ → ℕ → Event → Looked (ℕ × ℕ) (List FlowEdge)
last_edges program plan logs xs p k j e =
    look_then (sync_edges program logs xs p k j e.number) (λ es.
    look_map (λ from. es ++ bare_edge Control from ∷ [])
    (in_process p (control_origin program plan (seen_at xs p) p k j e.stmt)))

-- the reads in order, the synchronization, and control
abbrev pub event_edges : Program → Plan → Logs → List Seen → ℕ → ℕ → ℕ → Event
    → Looked (ℕ × ℕ) (Result (List FlowEdge) Missing)
event_edges program plan logs xs p k j e =
    look_then (read_edges program plan logs xs p k j e.reads) (λ es. and_more es
    (last_edges program plan logs xs p k j e))

-- item j of interval k of process p is this one
abbrev pub item_edges : Program → Plan → Logs → List Seen → ℕ → ℕ → ℕ → Item
    → Looked (ℕ × ℕ) (Result (List FlowEdge) Missing)
item_edges program plan logs xs p k j (item.Own e) = event_edges program plan logs xs p k j e
item_edges program plan logs xs p k j (item.Nested m b values closed) =
    look_map (λ es. Ok es)
    (in_process p (edges_of_nested program plan (seen_at xs p) p k j m b values (block_kind plan b)))

abbrev pub edges_if : Program → Plan → Logs → List Seen → ℕ → ℕ → ℕ → Option Item
    → Looked (ℕ × ℕ) (Option (Result (List FlowEdge) Missing))
edges_if program plan logs xs p k j None = known None
edges_if program plan logs xs p k j (Some t) = look_map (λ es. Some es) (item_edges program plan logs xs p k j t)

-- the edges of item j of interval k of process p, in order, and None where there is no such item: the interval is
-- replayed first
abbrev pub found_edges : Program → Plan → Logs → List Seen → ℕ → ℕ → ℕ
    → Looked (ℕ × ℕ) (Option (Result (List FlowEdge) Missing))
found_edges program plan logs xs p k j =
    after_replay (p, k) (edges_if program plan logs xs p k j (slice_get (get_or (seen_at xs p).items k []) j))
