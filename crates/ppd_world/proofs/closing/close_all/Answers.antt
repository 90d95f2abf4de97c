use Rattle.std.proofs.Common.{rules, arith}
use Rattle.std.proofs.lemmas.Grind.{common_steps}
use Rattle.ppd_world.proofs.closing.close_all.Goals as goal

pub branch-list-requires : goal.branch-list-requires
branch-list-requires c = search rules depth 1 fits 30

pub branch-push-requires : goal.branch-push-requires
branch-push-requires c = search rules depth 1 fits 30

pub close_one-requires : goal.close_one-requires
close_one-requires c = search rules depth 1 fits 30

pub drop-ends-inside-requires : goal.drop-ends-inside-requires
drop-ends-inside-requires c = search rules depth 1 fits 30

pub drop-lists-inside-requires : goal.drop-lists-inside-requires
drop-lists-inside-requires c = search rules depth 1 fits 30

pub drop-loggings-requires : goal.drop-loggings-requires
drop-loggings-requires c = search rules depth 1 fits 30

pub drop-loggings-requires-2 : goal.drop-loggings-requires-2
drop-loggings-requires-2 c = search rules depth 1 fits 30

pub from_residual-requires : goal.from_residual-requires
from_residual-requires c = search rules depth 1 fits 30

pub len-requires : goal.len-requires
len-requires c = search rules depth 1 fits 30

pub loop-alloc-init : goal.loop-alloc-init
loop-alloc-init c = search rules depth 1 fits 30

pub loop-alloc-preserved : goal.loop-alloc-preserved
loop-alloc-preserved c = grind (arith, common_steps) steps 250000

pub loop-alloc-smaller : goal.loop-alloc-smaller
loop-alloc-smaller c = search rules depth 1 fits 30

pub new-ends-requires : goal.new-ends-requires
new-ends-requires c = search rules depth 1 fits 30

pub new-lists-requires : goal.new-lists-requires
new-lists-requires c = search rules depth 1 fits 30

pub push-requires : goal.push-requires
push-requires c = search rules depth 1 fits 30

pub push-requires-in-loop-alloc : goal.push-requires-in-loop-alloc
push-requires-in-loop-alloc c = search rules depth 1 fits 30

pub returns : goal.returns
returns c = grind (arith, common_steps) steps 250000

pub returns-in_err-list : goal.returns-in_err-list
returns-in_err-list c = grind (arith, common_steps) steps 250000

pub returns-in_err-push : goal.returns-in_err-push
returns-in_err-push c = grind (arith, common_steps) steps 250000

pub returns-in_err-push-2 : goal.returns-in_err-push-2
returns-in_err-push-2 c = grind (arith, common_steps) steps 250000

pub same-ends-in-loop-alloc : goal.same-ends-in-loop-alloc
same-ends-in-loop-alloc c = search rules depth 1 fits 30

pub same-lists-in-loop-alloc : goal.same-lists-in-loop-alloc
same-lists-in-loop-alloc c = search rules depth 1 fits 30
