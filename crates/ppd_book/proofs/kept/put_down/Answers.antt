use Rattle.std.proofs.Common.{rules, arith}
use Rattle.std.proofs.lemmas.Grind.{common_steps}
use Rattle.ppd_book.proofs.kept.put_down.Goals as goal

pub drop-requires : goal.drop-requires
drop-requires c = search rules depth 1 fits 30

pub len-first-requires : goal.len-first-requires
len-first-requires c = search rules depth 1 fits 30

pub put_printing-requires : goal.put_printing-requires
put_printing-requires c = search rules depth 1 fits 30

pub returns-in-Err : goal.returns-in-Err
returns-in-Err c = search rules depth 1 fits 30

pub returns-in-Err-put_printing : goal.returns-in-Err-put_printing
returns-in-Err-put_printing c = grind (arith, common_steps) steps 250000

pub returns-in-Ok-put_printing : goal.returns-in-Ok-put_printing
returns-in-Ok-put_printing c = search rules depth 1 fits 30

pub truncate-requires : goal.truncate-requires
truncate-requires c = search rules depth 1 fits 30

pub write_down-requires : goal.write_down-requires
write_down-requires c = search rules depth 1 fits 30
