use Rattle.std.proofs.Common.{rules, arith}
use Rattle.std.proofs.lemmas.Grind.{common_steps}
use Rattle.ppd_whole.proofs.marks.marks_in_turn.Goals as goal

pub branch-marks-requires : goal.branch-marks-requires
branch-marks-requires c = search rules depth 1 fits 30

pub branch-push-requires : goal.branch-push-requires
branch-push-requires c = search rules depth 1 fits 30

pub deref-requires : goal.deref-requires
deref-requires c = search rules depth 1 fits 30

pub drop-all-requires : goal.drop-all-requires
drop-all-requires c = search rules depth 1 fits 30

pub drop-all-requires-in_err-push : goal.drop-all-requires-in_err-push
drop-all-requires-in_err-push c = search rules depth 1 fits 30

pub from_residual-requires : goal.from_residual-requires
from_residual-requires c = search rules depth 1 fits 30

pub from_residual-requires-in_err-push : goal.from_residual-requires-in_err-push
from_residual-requires-in_err-push c = search rules depth 1 fits 30

pub loop-own-init : goal.loop-own-init
loop-own-init c = search rules depth 1 fits 30

pub loop-own-preserved : goal.loop-own-preserved
loop-own-preserved c = grind (arith, common_steps) steps 250000

pub loop-own-smaller : goal.loop-own-smaller
loop-own-smaller c = search rules depth 1 fits 30

pub marks_of-requires : goal.marks_of-requires
marks_of-requires c = search rules depth 1 fits 30

pub new-all-requires : goal.new-all-requires
new-all-requires c = search rules depth 1 fits 30

pub push-requires : goal.push-requires
push-requires c = search rules depth 1 fits 30

pub returns-in_err-push : goal.returns-in_err-push
returns-in_err-push c = search rules depth 1 fits 30
