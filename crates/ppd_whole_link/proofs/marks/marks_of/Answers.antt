use Rattle.std.proofs.Common.{rules, arith}
use Rattle.std.proofs.lemmas.Grind.{common_steps}
use Rattle.ppd_whole_link.proofs.marks.marks_of.Goals as goal

pub add-requires : goal.add-requires
add-requires c = search rules depth 1 fits 30

pub branch-add-requires : goal.branch-add-requires
branch-add-requires c = search rules depth 1 fits 30

pub drop-marks-requires : goal.drop-marks-requires
drop-marks-requires c = search rules depth 1 fits 30

pub drop-marks-requires-in_err-add : goal.drop-marks-requires-in_err-add
drop-marks-requires-in_err-add c = search rules depth 1 fits 30

pub from_residual-requires : goal.from_residual-requires
from_residual-requires c = search rules depth 1 fits 30

pub loop-event-init : goal.loop-event-init
loop-event-init c = grind (arith, common_steps) steps 250000

pub loop-event-preserved : goal.loop-event-preserved
loop-event-preserved c = grind (arith, common_steps) steps 250000

pub loop-event-smaller : goal.loop-event-smaller
loop-event-smaller c = search rules depth 1 fits 30

pub new-requires : goal.new-requires
new-requires c = search rules depth 1 fits 30

pub new-requires-2 : goal.new-requires-2
new-requires-2 c = search rules depth 1 fits 30

pub returns-clause-few : goal.returns-clause-few
returns-clause-few c = search rules depth 1 fits 30

pub returns-in_err-add : goal.returns-in_err-add
returns-in_err-add c = search rules depth 1 fits 30

pub returns-then-events-ge4294967296 : goal.returns-then-events-ge4294967296
returns-then-events-ge4294967296 c = search rules depth 1 fits 30
