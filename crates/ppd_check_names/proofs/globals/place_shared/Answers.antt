use Rattle.std.proofs.Common.{arith}
use Rattle.std.proofs.lemmas.Grind.{common_steps, elements}
use Rattle.ppd_check_names.proofs.globals.place_shared.Goals as goal

pub alloc-alloc-requires : goal.alloc-alloc-requires
alloc-alloc-requires c = omega arith

pub from-requires : goal.from-requires
from-requires c = omega arith

pub returns : goal.returns
returns c = grind (arith, common_steps) steps 250000

pub returns-in_err-name_next : goal.returns-in_err-name_next
returns-in_err-name_next c = grind (arith, common_steps) steps 250000

pub returns-in_err-push_variable : goal.returns-in_err-push_variable
returns-in_err-push_variable c = grind (arith, elements) steps 250000
