use Rattle.std.proofs.Common.{rules, arith}
use Rattle.std.proofs.lemmas.Grind.{common_steps, elements}
use Rattle.ppd_session.proofs.why.put_item_of.Goals as goal

pub branch-item-requires : goal.branch-item-requires
branch-item-requires c = search rules depth 1 fits 30

pub from_residual-requires : goal.from_residual-requires
from_residual-requires c = search rules depth 1 fits 30

pub get-requires : goal.get-requires
get-requires c = search rules depth 1 fits 30

pub number-requires : goal.number-requires
number-requires c = search rules depth 1 fits 30

pub put_refusal-requires : goal.put_refusal-requires
put_refusal-requires c = search rules depth 1 fits 30

pub put_told-requires : goal.put_told-requires
put_told-requires c = grind (arith, common_steps) steps 250000

pub returns : goal.returns
returns c = grind (arith, elements) steps 250000

pub returns-in_default : goal.returns-in_default
returns-in_default c = grind (arith, elements) steps 250000

pub returns-in_err-item : goal.returns-in_err-item
returns-in_err-item c = grind (arith, common_steps) steps 250000
