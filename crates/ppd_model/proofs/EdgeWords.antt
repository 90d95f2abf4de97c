-- Words of the proofs for flowback edges.
use Rattle.std.specs.Prelude.{ℕ, List, Option, Some, slice_get, option_and_then}
use Rattle.ppd_model.specs.declared.flow.Origin.TheVariants as origin
use Rattle.std.specs.Option.{option_map_or}
use Rattle.ppd_model.specs.FlowbackEdges.{edges_of_part, part_at}
use Rattle.ppd_ast.specs.declared.plan.Plan.{Plan}
use Rattle.ppd_ast.specs.declared.program.Program.{Program}
use Rattle.ppd_sem.specs.declared.event.Access.{Access}
use Rattle.ppd_model.specs.declared.flow.EdgeKind.TheVariants.{Read}
use Rattle.ppd_model.specs.declared.flow.FlowEdge.{FlowEdge}
use Rattle.ppd_model.specs.FullTrace.{Tag}
use Rattle.ppd_model.specs.Intervals.{Part, Span, Split, ref}

-- part j of an interval
abbrev pub part_in : Option Span → ℕ → Option Part
part_in o j = option_and_then (λ (i : Span). slice_get i.parts j) o

-- the edges of a part that is there
abbrev pub edges_if : Program → Plan → List Split → Split → Option Part → Option (List FlowEdge)
edges_if program plan xs x o = option_and_then (edges_of_part program plan xs x) o

-- the edges of item j of interval k of one process
abbrev pub edges_in : Program → Plan → List Split → ℕ → ℕ → Option Split → Option (List FlowEdge)
edges_in program plan xs k j o = option_and_then (λ x. edges_if program plan xs x (part_at x k j)) o

-- from the event that last wrote the place that is read
abbrev pub read_edge : List Split → Access × Tag → FlowEdge
read_edge xs r = record { kind = Read; spot = Some r.0.spot; value = Some r.0.value; from = option_map_or (ref xs) r.1 origin.Initial }
