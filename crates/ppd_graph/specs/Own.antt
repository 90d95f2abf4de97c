-- The edge of a read from its origin, and the edges of an item that is an interval inside, whose origins are found
-- within its process, with the intervals that are replayed to find them.
use Rattle.std.specs.Prelude.{ℕ, ◌+◌, ◌-◌, ℤ, List, [], ◌∷◌, ◌++◌, take, Some, None, get_or}
use Rattle.ppd_ast.specs.declared.plan.BlockKind.{BlockKind}
use Rattle.ppd_ast.specs.declared.plan.BlockKind.TheVariants as block
use Rattle.ppd_ast.specs.declared.plan.Plan.{Plan}
use Rattle.ppd_ast.specs.declared.program.Program.{Program}
use Rattle.ppd_sem.specs.declared.event.Access.{Access}
use Rattle.ppd_sem.specs.declared.event.Spot.TheVariants.{Local}
use Rattle.ppd_sem.specs.Blocks.{postlog_cells}
use Rattle.ppd_model.specs.declared.flow.EdgeKind.TheVariants.{Read, Left, Returned, Control}
use Rattle.ppd_model.specs.declared.flow.FlowEdge.{FlowEdge}
use Rattle.ppd_model.specs.declared.flow.Origin.{Origin}
use Rattle.ppd_model.specs.declared.flow.Origin.TheVariants as origin
use Rattle.ppd_model.specs.FlowbackEdges.{bare_edge}
use Rattle.ppd_graph.specs.Control.{control_origin}
use Rattle.ppd_graph.specs.Locals.{frame_in, leaf_at, local_origin}
use Rattle.ppd_graph.specs.Looked.{Looked, known, look_both, look_map}
use Rattle.ppd_graph.specs.Seen.{Seen, last_item}

-- ---- of a read

-- from the origin of what is read
abbrev pub read_from : Access → Origin → FlowEdge
read_from a from = record { kind = Read; spot = Some a.spot; value = Some a.value; from = from }

-- ---- of an interval

-- the frame of place j in interval k
abbrev pub frame_at : Program → Plan → Seen → ℕ → ℕ → ℕ
frame_at program plan x k j = frame_in (leaf_at program plan (take j (get_or x.items k [])))

-- one for each local cell of a loop's postlog: the last write before the loop's end
abbrev pub left_edges : Program → Plan → Seen → ℕ → ℕ → ℕ → ℕ → List ℕ → List ℤ → Looked ℕ (List FlowEdge)
left_edges program plan x p k j frame (c ∷ cs) (v ∷ vs) =
    look_both
    (λ from more. record { kind = Left; spot = Some (Local frame c); value = Some v; from = from } ∷ more)
    (local_origin program plan x p k (j + 1) frame c) (left_edges program plan x p k j frame cs vs)
left_edges program plan x p k j frame cs vs = known []

-- one for a returned value: the last item of the function's interval m
abbrev pub returned_edges : Seen → ℕ → ℕ → List ℤ → Looked ℕ (List FlowEdge)
returned_edges x p m [] = known []
returned_edges x p m (v ∷ vs) =
    look_map (λ from. record { kind = Returned; spot = None; value = Some v; from = from } ∷ []) (last_item x p m)

-- item j of interval k, whose items are there, is interval m of block b with these values: what it brought, and
-- control; the call of a function's interval stands straight before it
abbrev pub edges_of_nested : Program → Plan → Seen → ℕ → ℕ → ℕ → ℕ → ℕ → List ℤ → BlockKind
    → Looked ℕ (List FlowEdge)
edges_of_nested program plan x p k j m b values (block.Loop l) =
    look_both (λ brought from. brought ++ bare_edge Control from ∷ [])
    (left_edges program plan x p k j (frame_at program plan x k j) (postlog_cells plan b) values)
    (control_origin program plan x p k j l)
edges_of_nested program plan x p k j m b values kind =
    look_map (λ brought. brought ++ bare_edge Control (origin.Item p k (j - 1)) ∷ []) (returned_edges x p m values)
