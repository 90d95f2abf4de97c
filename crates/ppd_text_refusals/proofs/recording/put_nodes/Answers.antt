use Rattle.std.proofs.Common.{rules, arith}
use Rattle.std.proofs.lemmas.Grind.{common_steps}
use Rattle.ppd_text_refusals.proofs.recording.put_nodes.Goals as goal

pub branch-put_node-requires : goal.branch-put_node-requires
branch-put_node-requires c = search rules depth 1 fits 30

pub from_residual-requires : goal.from_residual-requires
from_residual-requires c = search rules depth 1 fits 30

pub loop-node-init : goal.loop-node-init
loop-node-init c = search rules depth 1 fits 30

pub loop-node-smaller : goal.loop-node-smaller
loop-node-smaller c = search rules depth 1 fits 30

pub put_node-requires : goal.put_node-requires
put_node-requires c = search rules depth 1 fits 30

pub returns-in_err-put_node : goal.returns-in_err-put_node
returns-in_err-put_node c = grind (arith, common_steps) steps 250000
