use Rattle.std.proofs.Common.{rules, arith}
use Rattle.std.proofs.lemmas.Grind.{common_steps}
use Rattle.ppd_codec.proofs.writer.Writer.cells.Goals as goal

pub branch-number_2-requires : goal.branch-number_2-requires
branch-number_2-requires c = search rules depth 1 fits 30

pub from_residual-requires : goal.from_residual-requires
from_residual-requires c = search rules depth 1 fits 30

pub loop-cell-init : goal.loop-cell-init
loop-cell-init c = grind (arith, common_steps) steps 250000

pub loop-cell-smaller : goal.loop-cell-smaller
loop-cell-smaller c = grind (arith, common_steps) steps 250000

pub number_2-requires : goal.number_2-requires
number_2-requires c = search rules depth 1 fits 30

pub number_2-requires-in-loop-cell : goal.number_2-requires-in-loop-cell
number_2-requires-in-loop-cell c = search rules depth 1 fits 30

pub returns : goal.returns
returns c = grind (arith, common_steps) steps 250000

pub returns-in_err-number_2 : goal.returns-in_err-number_2
returns-in_err-number_2 c = search rules depth 1 fits 30

pub returns-in_err-number_2-2 : goal.returns-in_err-number_2-2
returns-in_err-number_2-2 c = grind (arith, common_steps) steps 250000
