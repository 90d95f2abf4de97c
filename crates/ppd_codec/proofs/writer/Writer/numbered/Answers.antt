use Rattle.std.proofs.Common.{rules, arith}
use Rattle.std.proofs.lemmas.Grind.{common_steps}
use Rattle.ppd_codec.proofs.writer.Writer.numbered.Goals as goal

pub branch-byte-requires : goal.branch-byte-requires
branch-byte-requires c = search rules depth 1 fits 30

pub byte-requires : goal.byte-requires
byte-requires c = search rules depth 1 fits 30

pub from_residual-requires : goal.from_residual-requires
from_residual-requires c = search rules depth 1 fits 30

pub number_2-requires : goal.number_2-requires
number_2-requires c = search rules depth 1 fits 30

pub returns : goal.returns
returns c = grind (arith, common_steps) steps 250000

pub returns-in_err-byte : goal.returns-in_err-byte
returns-in_err-byte c = search rules depth 1 fits 30

pub returns-in_err-number_2 : goal.returns-in_err-number_2
returns-in_err-number_2 c = grind (arith, common_steps) steps 250000

pub values-requires : goal.values-requires
values-requires c = grind (arith, common_steps) steps 250000
