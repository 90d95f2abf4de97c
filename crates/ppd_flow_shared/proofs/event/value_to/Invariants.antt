use Rattle.std.proofs.Common.{◌≡◌, drop}
use Rattle.ppd_graph.specs.Walk.{value_to}
use Rattle.ppd_flow_shared.proofs.event.value_to.Given as goal

-- what is left gives what all give
abbrev pub invariant-loop-access : goal.invariant-loop-access
invariant-loop-access l = value_to l.cell (drop l.access-index l.accesses) ≡ value_to l.cell l.accesses
