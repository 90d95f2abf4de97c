use Rattle.std.proofs.Common.{rules, arith}
use Rattle.std.proofs.lemmas.Grind.{common_steps}
use Rattle.ppd_index.proofs.build.few_rows.Goals as goal

pub branch-rows-requires : goal.branch-rows-requires
branch-rows-requires c = search rules depth 1 fits 30

pub from_vec-requires : goal.from_vec-requires
from_vec-requires c = search rules depth 1 fits 30

pub number-requires : goal.number-requires
number-requires c = search rules depth 1 fits 30

pub own_rows-requires : goal.own_rows-requires
own_rows-requires c = search rules depth 1 fits 30

pub returns : goal.returns
returns c = grind (arith, common_steps) steps 250000

pub returns-in_err-number : goal.returns-in_err-number
returns-in_err-number c = grind (arith, common_steps) steps 250000

pub returns-in_err-rows : goal.returns-in_err-rows
returns-in_err-rows c = grind (arith, common_steps) steps 250000
