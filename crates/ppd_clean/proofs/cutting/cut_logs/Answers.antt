use Rattle.std.proofs.Common.{rules, arith}
use Rattle.std.proofs.lemmas.Grind.{common_steps}
use Rattle.ppd_clean.proofs.cutting.cut_logs.Goals as goal

pub as_slice-entries-items-requires : goal.as_slice-entries-items-requires
as_slice-entries-items-requires c = search rules depth 1 fits 30

pub as_slice-requires : goal.as_slice-requires
as_slice-requires c = search rules depth 1 fits 30

pub branch-cut-requires : goal.branch-cut-requires
branch-cut-requires c = search rules depth 1 fits 30

pub cut_log-requires : goal.cut_log-requires
cut_log-requires c = search rules depth 1 fits 30

pub drop-lists-inside-requires : goal.drop-lists-inside-requires
drop-lists-inside-requires c = search rules depth 1 fits 30

pub drop-lists-inside-requires-in_err-cut : goal.drop-lists-inside-requires-in_err-cut
drop-lists-inside-requires-in_err-cut c = search rules depth 1 fits 30

pub from_residual-requires : goal.from_residual-requires
from_residual-requires c = search rules depth 1 fits 30

pub loop-number-init : goal.loop-number-init
loop-number-init c = search rules depth 1 fits 30

pub loop-number-preserved : goal.loop-number-preserved
loop-number-preserved c = grind (arith, common_steps) steps 250000

pub loop-number-smaller : goal.loop-number-smaller
loop-number-smaller c = search rules depth 1 fits 30

pub new-lists-requires : goal.new-lists-requires
new-lists-requires c = search rules depth 1 fits 30

pub push-requires : goal.push-requires
push-requires c = search rules depth 1 fits 30

pub returns : goal.returns
returns c = grind (arith, common_steps) steps 250000

pub returns-in_default : goal.returns-in_default
returns-in_default c = search rules depth 1 fits 30

pub returns-in_err-cut : goal.returns-in_err-cut
returns-in_err-cut c = search rules depth 1 fits 30

pub returns-in_err-push : goal.returns-in_err-push
returns-in_err-push c = grind (arith, common_steps) steps 250000

pub same-lists-in-loop-number : goal.same-lists-in-loop-number
same-lists-in-loop-number c = search rules depth 1 fits 30

pub try_from-requires : goal.try_from-requires
try_from-requires c = search rules depth 1 fits 30
