use Rattle.std.proofs.Common.{rules, arith}
use Rattle.std.proofs.lemmas.Grind.{common_steps}
use Rattle.ppd_codec.proofs.writer.Writer.source.Goals as goal

pub branch-extend_from_slice-requires : goal.branch-extend_from_slice-requires
branch-extend_from_slice-requires c = search rules depth 1 fits 30

pub branch-number_4-requires : goal.branch-number_4-requires
branch-number_4-requires c = search rules depth 1 fits 30

pub extend_from_slice-requires : goal.extend_from_slice-requires
extend_from_slice-requires c = search rules depth 1 fits 30

pub from_residual-requires : goal.from_residual-requires
from_residual-requires c = search rules depth 1 fits 30

pub number_4-requires : goal.number_4-requires
number_4-requires c = search rules depth 1 fits 30

pub returns : goal.returns
returns c = grind (arith, common_steps) steps 250000

pub returns-in_err-extend_from_slice : goal.returns-in_err-extend_from_slice
returns-in_err-extend_from_slice c = grind (arith, common_steps) steps 250000

pub returns-in_err-number_4 : goal.returns-in_err-number_4
returns-in_err-number_4 c = search rules depth 1 fits 30
