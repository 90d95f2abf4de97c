use Rattle.std.proofs.Common.{rules, arith}
use Rattle.std.proofs.lemmas.Grind.{common_steps}
use Rattle.ppd_session.proofs.deps.put_edges.Goals as goal

pub branch-put_edge-requires : goal.branch-put_edge-requires
branch-put_edge-requires c = search rules depth 1 fits 30

pub from_residual-requires : goal.from_residual-requires
from_residual-requires c = search rules depth 1 fits 30

pub loop-edge-init : goal.loop-edge-init
loop-edge-init c = search rules depth 1 fits 30

pub loop-edge-preserved : goal.loop-edge-preserved
loop-edge-preserved c = grind (arith, common_steps) steps 250000

pub loop-edge-smaller : goal.loop-edge-smaller
loop-edge-smaller c = search rules depth 1 fits 30

pub put_edge-requires : goal.put_edge-requires
put_edge-requires c = search rules depth 1 fits 30

pub returns : goal.returns
returns c = grind (arith, common_steps) steps 250000

pub returns-in_err-put_edge : goal.returns-in_err-put_edge
returns-in_err-put_edge c = grind (arith, common_steps) steps 250000
