use Rattle.std.proofs.Common.{rules, arith}
use Rattle.std.proofs.lemmas.Grind.{common_steps}
use Rattle.ppd_parse.proofs.numbering.turn.Goals as goal

pub branch-push-requires : goal.branch-push-requires
branch-push-requires c = search rules depth 1 fits 30

pub drop-turns-requires : goal.drop-turns-requires
drop-turns-requires c = search rules depth 1 fits 30

pub from_residual-requires : goal.from_residual-requires
from_residual-requires c = search rules depth 1 fits 30

pub from_vec-requires : goal.from_vec-requires
from_vec-requires c = search rules depth 1 fits 30

pub loop-id-init : goal.loop-id-init
loop-id-init c = search rules depth 1 fits 30

pub loop-id-smaller : goal.loop-id-smaller
loop-id-smaller c = search rules depth 1 fits 30

pub new-turns-requires : goal.new-turns-requires
new-turns-requires c = search rules depth 1 fits 30

pub overflow_sub-count-in-loop-id : goal.overflow_sub-count-in-loop-id
overflow_sub-count-in-loop-id c = search rules depth 1 fits 30

pub push-requires : goal.push-requires
push-requires c = search rules depth 1 fits 30

pub returns : goal.returns
returns c = grind (arith, common_steps) steps 250000

pub returns-in_err-push : goal.returns-in_err-push
returns-in_err-push c = search rules depth 1 fits 30
