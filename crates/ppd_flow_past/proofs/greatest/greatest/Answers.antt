use Rattle.std.proofs.Common.{rules, arith}
use Rattle.std.proofs.lemmas.Grind.{common_steps, elements}
use Rattle.ppd_flow_past.proofs.greatest.greatest.Goals as goal

pub as_slice-requires : goal.as_slice-requires
as_slice-requires c = search rules depth 1 fits 30

pub branch-best-requires : goal.branch-best-requires
branch-best-requires c = search rules depth 1 fits 30

pub edge_sets-sets-items-requires : goal.edge_sets-sets-items-requires
edge_sets-sets-items-requires c = search rules depth 1 fits 30

pub from_residual-requires : goal.from_residual-requires
from_residual-requires c = search rules depth 1 fits 30

pub greatest_of-requires : goal.greatest_of-requires
greatest_of-requires c = grind (arith, elements) steps 250000

pub loop-p-init : goal.loop-p-init
loop-p-init c = search rules depth 1 fits 30

pub loop-p-preserved : goal.loop-p-preserved
loop-p-preserved c = grind (arith, common_steps) steps 250000

pub loop-p-smaller : goal.loop-p-smaller
loop-p-smaller c = search rules depth 1 fits 30

pub returns : goal.returns
returns c = grind (arith, common_steps) steps 250000

pub returns-in_default : goal.returns-in_default
returns-in_default c = search rules depth 1 fits 30

pub returns-in_err-best : goal.returns-in_err-best
returns-in_err-best c = search rules depth 1 fits 30

pub try_from-requires : goal.try_from-requires
try_from-requires c = search rules depth 1 fits 30
