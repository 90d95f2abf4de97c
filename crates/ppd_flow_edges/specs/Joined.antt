-- The edge of what a loop left.
use Rattle.std.specs.Prelude.{ℤ, Some}
use Rattle.ppd_sem.specs.declared.event.Spot.{Spot}
use Rattle.ppd_model.specs.declared.flow.EdgeKind.TheVariants.{Left}
use Rattle.ppd_model.specs.declared.flow.FlowEdge.{FlowEdge}
use Rattle.ppd_model.specs.declared.flow.Origin.{Origin}

-- from the last write of the local cell that a loop left with this value
abbrev pub left_at : Spot → ℤ → Origin → FlowEdge
left_at spot v from = record { kind = Left; spot = Some spot; value = Some v; from = from }
