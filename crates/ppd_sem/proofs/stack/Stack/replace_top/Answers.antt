use Rattle.std.proofs.Common.{rules, arith}
use Rattle.std.proofs.lemmas.Grind.{common_steps}
use Rattle.ppd_sem.proofs.stack.Stack.replace_top.Goals as goal

pub append-requires : goal.append-requires
append-requires g c = search rules depth 1 fits 30

pub drop-items-requires : goal.drop-items-requires
drop-items-requires g c = search rules depth 1 fits 30

pub drop-items-requires-2 : goal.drop-items-requires-2
drop-items-requires-2 g c = search rules depth 1 fits 30

pub drop-remove-requires : goal.drop-remove-requires
drop-remove-requires g c = search rules depth 1 fits 30

pub is_err-requires : goal.is_err-requires
is_err-requires g c = search rules depth 1 fits 30

pub len-top-requires : goal.len-top-requires
len-top-requires g c = search rules depth 1 fits 30

pub remove-requires : goal.remove-requires
remove-requires g c = grind (arith, common_steps) steps 250000

pub returns-clause-err : goal.returns-clause-err
returns-clause-err g c = search rules depth 1 fits 30

pub returns-then-is_err : goal.returns-then-is_err
returns-then-is_err g c = search rules depth 1 fits 30
