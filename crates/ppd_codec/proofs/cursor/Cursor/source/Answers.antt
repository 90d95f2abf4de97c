use Rattle.std.proofs.Common.{rules, arith}
use Rattle.std.proofs.lemmas.Grind.{common_steps}
use Rattle.ppd_codec.proofs.cursor.Cursor.source.Goals as goal

pub block-requires : goal.block-requires
block-requires c = search rules depth 1 fits 30

pub branch-count-requires : goal.branch-count-requires
branch-count-requires c = search rules depth 1 fits 30

pub from_residual-requires : goal.from_residual-requires
from_residual-requires c = search rules depth 1 fits 30

pub returns : goal.returns
returns c = grind (arith, common_steps) steps 250000

pub returns-in_err-count : goal.returns-in_err-count
returns-in_err-count c = grind (arith, common_steps) steps 250000

pub source_length-requires : goal.source_length-requires
source_length-requires c = search rules depth 1 fits 30
