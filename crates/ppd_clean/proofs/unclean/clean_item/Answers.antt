use Rattle.std.proofs.Common.{rules, arith}
use Rattle.std.proofs.lemmas.Grind.{common_steps, elements}
use Rattle.ppd_clean.proofs.unclean.clean_item.Goals as goal

pub as_slice-requires : goal.as_slice-requires
as_slice-requires c = search rules depth 1 fits 30

pub branch-check_item-requires : goal.branch-check_item-requires
branch-check_item-requires c = search rules depth 1 fits 30

pub check_item-requires : goal.check_item-requires
check_item-requires c = grind (arith, common_steps) steps 250000

pub drop-items-inside-requires : goal.drop-items-inside-requires
drop-items-inside-requires c = search rules depth 1 fits 30

pub drop-items-requires : goal.drop-items-requires
drop-items-requires c = search rules depth 1 fits 30

pub from_residual-requires : goal.from_residual-requires
from_residual-requires c = search rules depth 1 fits 30

pub into_vec-items-requires : goal.into_vec-items-requires
into_vec-items-requires c = search rules depth 1 fits 30

pub returns : goal.returns
returns c = grind (arith, elements) steps 250000

pub returns-in_err-check_item : goal.returns-in_err-check_item
returns-in_err-check_item c = search rules depth 1 fits 30

pub swap_remove-requires : goal.swap_remove-requires
swap_remove-requires c = grind (arith, elements) steps 250000
