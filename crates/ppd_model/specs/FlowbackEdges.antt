-- The flowback edges of an item: where what it read, was left, was given and was let run by came from.
use Rattle.ppd_model.specs.Setting.{Setting}
use Rattle.std.specs.Prelude.{ℕ, ℤ, pos, List, [], ◌∷◌, ◌++◌, map, zip, get_or, slice_get, Option, Some, None, option_map, option_and_then}
use Rattle.ppd_sem.specs.declared.event.Spot.{Spot}
use Rattle.std.specs.Option.{option_map_or}
use Rattle.ppd_sem.specs.Blocks.{block_kind, postlog_cells}
use Rattle.ppd_ast.specs.declared.plan.BlockKind.{BlockKind}
use Rattle.ppd_ast.specs.declared.plan.BlockKind.TheVariants as block
use Rattle.ppd_ast.specs.declared.plan.Plan.{Plan}
use Rattle.ppd_ast.specs.declared.program.Kind.{Kind}
use Rattle.ppd_ast.specs.declared.program.Kind.TheVariants as kind
use Rattle.ppd_ast.specs.declared.program.Program.{Program}
use Rattle.ppd_ast.specs.Lookups.{kind_of}
use Rattle.ppd_sem.specs.declared.event.Spot.TheVariants.{Local}
use Rattle.ppd_model.specs.declared.flow.EdgeKind.{EdgeKind}
use Rattle.ppd_model.specs.declared.flow.EdgeKind.TheVariants.{Read, Left, Returned, Sync, Control}
use Rattle.ppd_model.specs.declared.flow.FlowEdge.{FlowEdge}
use Rattle.ppd_model.specs.declared.flow.Origin.{Origin}
use Rattle.ppd_model.specs.declared.flow.Origin.TheVariants as origin
use Rattle.ppd_model.specs.declared.trace.EventId.{EventId}
use Rattle.ppd_model.specs.declared.trace.TracedEvent.{TracedEvent}
use Rattle.ppd_model.specs.Story.{Story}
use Rattle.ppd_model.specs.FullTrace.{Tag}
use Rattle.ppd_model.specs.Intervals.{Part, own, nested, Span, Split, splits, ref}

-- ---- of an event

-- an edge without spot and value
abbrev pub bare_edge : EdgeKind → Origin → FlowEdge
bare_edge kind from = record { kind = kind; spot = None; value = None; from = from }

-- from the synchronization that leads to this one; a P that no V leads to comes from the start
abbrev pub sync_edges : List Split → Kind → Option EventId → List FlowEdge
sync_edges xs k (Some e) = bare_edge Sync (ref xs e) ∷ []
sync_edges xs (kind.P s) None = bare_edge Sync origin.Initial ∷ []
sync_edges xs k None = []

-- the reads in order, each from the event that last wrote the place, the synchronization, and control
abbrev pub edges_of_event : Program → List Split → TracedEvent → List FlowEdge
edges_of_event program xs e =
    map (λ r. record {
      kind = Read;
      spot = Some r.0.spot;
      value = Some r.0.value;
      from = option_map_or (ref xs) r.1 origin.Initial;
    }) (zip e.event.reads e.writers)
    ++ sync_edges xs (kind_of program e.event.stmt) e.paired
    ++ bare_edge Control (option_map_or (ref xs) e.parent origin.Entry) ∷ []

-- ---- of an interval

-- an edge for each value of a postlog, with its spot, if it has one, and from the event that last wrote it
abbrev pub value_edges : List Split → EdgeKind → List (Option Spot) → List ℤ → List Tag → List FlowEdge
value_edges xs kind (s ∷ ss) (v ∷ vs) (w ∷ ws) =
    record { kind = kind; spot = s; value = Some v; from = option_map_or (ref xs) w origin.Initial }
    ∷ value_edges xs kind ss vs ws
value_edges xs kind ss vs ws = []

-- what a loop left, one for each local cell of its postlog, or what a function returned
abbrev pub result_edges : Plan → List Split → BlockKind → Span → List FlowEdge
result_edges plan xs (block.Loop s) i =
    value_edges xs Left (map (λ c. Some (Local i.frame c)) (postlog_cells plan i.block)) i.values i.left
result_edges plan xs kind i = value_edges xs Returned (None ∷ []) i.values i.left

-- what the interval brought, and control
abbrev pub edges_of_nested : Plan → List Split → Span → List FlowEdge
edges_of_nested plan xs i =
    result_edges plan xs (block_kind plan i.block) i
    ++ bare_edge Control (option_map_or (ref xs) i.control origin.Entry) ∷ []

-- ---- of an item

-- the edges of an event, or of an interval directly inside
abbrev pub edges_of_part : Program → Plan → List Split → Split → Part → Option (List FlowEdge)
edges_of_part program plan xs x (own n) = option_map (edges_of_event program xs) (slice_get x.trace.events n)
edges_of_part program plan xs x (nested m) = option_map (edges_of_nested plan xs) (slice_get x.spans m)

-- item j of interval k
abbrev pub part_at : Split → ℕ → ℕ → Option Part
part_at x k j = option_and_then (λ i. slice_get i.parts j) (slice_get x.spans k)

-- the edges of item j of interval k of process p, in order, and None where there is no such item
abbrev pub edges : Setting → Story → ℕ → ℕ → ℕ → Option (List FlowEdge)
edges setting story p k j =
    let xs = splits setting story in
    option_and_then (λ x. option_and_then (edges_of_part setting.program setting.plan xs x) (part_at x k j))
    (slice_get xs p)

-- the last value of a shared cell, and where it was written
abbrev pub last : Setting → Story → ℕ → ℤ × Origin
last setting story c =
    let xs = splits setting story in
    (get_or story.cells c (pos 0), option_map_or (ref xs) (get_or story.writers c None) origin.Initial)
