use Rattle.std.proofs.Common.{rules, arith}
use Rattle.std.proofs.lemmas.Grind.{common_steps, elements}
use Rattle.ppd_flow_past.proofs.greatest.greatest_of.Goals as goal

pub as_slice-requires : goal.as_slice-requires
as_slice-requires c = search rules depth 1 fits 30

pub branch-edge-requires : goal.branch-edge-requires
branch-edge-requires c = search rules depth 1 fits 30

pub from_residual-requires : goal.from_residual-requires
from_residual-requires c = search rules depth 1 fits 30

pub greater_if-best-requires : goal.greater_if-best-requires
greater_if-best-requires c = grind (arith, elements) steps 250000

pub loop-i-init : goal.loop-i-init
loop-i-init c = search rules depth 1 fits 30

pub loop-i-preserved : goal.loop-i-preserved
loop-i-preserved c = grind (arith, common_steps) steps 250000

pub loop-i-smaller : goal.loop-i-smaller
loop-i-smaller c = search rules depth 1 fits 30

pub number-requires : goal.number-requires
number-requires c = search rules depth 1 fits 30

pub returns : goal.returns
returns c = grind (arith, common_steps) steps 250000

pub returns-in_err-edge : goal.returns-in_err-edge
returns-in_err-edge c = search rules depth 1 fits 30
