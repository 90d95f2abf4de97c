use Rattle.std.proofs.Common.{rules, arith}
use Rattle.std.proofs.lemmas.Grind.{common_steps}
use Rattle.ppd_io.proofs.lines.LineReader.advance.Goals as goal

pub branch-self-inside-requires : goal.branch-self-inside-requires
branch-self-inside-requires g c = search rules depth 1 fits 30

pub clear-requires : goal.clear-requires
clear-requires g c = search rules depth 1 fits 30

pub fill_line-requires : goal.fill_line-requires
fill_line-requires g c = search rules depth 1 fits 30

pub from_residual-requires : goal.from_residual-requires
from_residual-requires g c = search rules depth 1 fits 30

pub is_empty-requires : goal.is_empty-requires
is_empty-requires g c = search rules depth 1 fits 30

pub returns : goal.returns
returns g c = grind (arith, common_steps) steps 250000

pub returns-in_err-self-inside : goal.returns-in_err-self-inside
returns-in_err-self-inside g c = grind (arith, common_steps) steps 250000

pub returns-then-self : goal.returns-then-self
returns-then-self g c = grind (arith, common_steps) steps 250000
