use Rattle.std.proofs.Common.{◌≡◌, drop}
use Rattle.ppd_graph.specs.Locals.{leaf_at}
use Rattle.ppd_flow_local.proofs.Scanned.{leaf_from}
use Rattle.ppd_flow_local.proofs.leaf.leaf_at.Given as goal

abbrev pub invariant-loop-i : goal.invariant-loop-i
invariant-loop-i l = leaf_from l.code.program.now l.code.plan.now l.i l.leaf (drop l.i l.items) ≡ leaf_at l.code.program.now l.code.plan.now l.items
