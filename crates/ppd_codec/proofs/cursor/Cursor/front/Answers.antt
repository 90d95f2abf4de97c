use Rattle.std.proofs.Common.{rules, arith}
use Rattle.std.proofs.lemmas.Grind.{common_steps, elements}
use Rattle.ppd_codec.proofs.cursor.Cursor.front.Goals as goal

pub branch-magic-requires : goal.branch-magic-requires
branch-magic-requires c = search rules depth 1 fits 30

pub budget-requires : goal.budget-requires
budget-requires c = search rules depth 1 fits 30

pub magic-requires : goal.magic-requires
magic-requires c = search rules depth 1 fits 30

pub returns-clause-cost : goal.returns-clause-cost
returns-clause-cost c = search rules depth 1 fits 30

pub returns-clause-early : goal.returns-clause-early
returns-clause-early c = search rules depth 1 fits 30

pub returns-clause-err : goal.returns-clause-err
returns-clause-err c = search rules depth 1 fits 30

pub returns-clause-policy : goal.returns-clause-policy
returns-clause-policy c = grind (arith, common_steps) steps 250000

pub returns-in_err-budget-clause-cost : goal.returns-in_err-budget-clause-cost
returns-in_err-budget-clause-cost c = search rules depth 1 fits 30

pub returns-in_err-budget-clause-early : goal.returns-in_err-budget-clause-early
returns-in_err-budget-clause-early c = grind (arith, common_steps) steps 250000

pub returns-in_err-budget-clause-err : goal.returns-in_err-budget-clause-err
returns-in_err-budget-clause-err c = grind (arith, elements) steps 250000

pub returns-in_err-budget-clause-ok : goal.returns-in_err-budget-clause-ok
returns-in_err-budget-clause-ok c = grind (arith, common_steps) steps 250000

pub returns-in_err-budget-clause-policy : goal.returns-in_err-budget-clause-policy
returns-in_err-budget-clause-policy c = grind (arith, common_steps) steps 250000

pub returns-in_err-leaf-clause-budget : goal.returns-in_err-leaf-clause-budget
returns-in_err-leaf-clause-budget c = grind (arith, common_steps) steps 250000

pub returns-in_err-leaf-clause-cost : goal.returns-in_err-leaf-clause-cost
returns-in_err-leaf-clause-cost c = search rules depth 1 fits 30

pub returns-in_err-leaf-clause-early : goal.returns-in_err-leaf-clause-early
returns-in_err-leaf-clause-early c = grind (arith, common_steps) steps 250000

pub returns-in_err-leaf-clause-err : goal.returns-in_err-leaf-clause-err
returns-in_err-leaf-clause-err c = grind (arith, elements) steps 250000

pub returns-in_err-leaf-clause-ok : goal.returns-in_err-leaf-clause-ok
returns-in_err-leaf-clause-ok c = grind (arith, common_steps) steps 250000

pub returns-in_err-leaf-clause-policy : goal.returns-in_err-leaf-clause-policy
returns-in_err-leaf-clause-policy c = grind (arith, common_steps) steps 250000

pub returns-in_err-loops-clause-cost : goal.returns-in_err-loops-clause-cost
returns-in_err-loops-clause-cost c = search rules depth 1 fits 30

pub returns-in_err-loops-clause-early : goal.returns-in_err-loops-clause-early
returns-in_err-loops-clause-early c = grind (arith, common_steps) steps 250000

pub returns-in_err-loops-clause-ok : goal.returns-in_err-loops-clause-ok
returns-in_err-loops-clause-ok c = grind (arith, common_steps) steps 250000

pub returns-in_err-loops-clause-policy : goal.returns-in_err-loops-clause-policy
returns-in_err-loops-clause-policy c = grind (arith, common_steps) steps 250000

pub returns-in_err-magic : goal.returns-in_err-magic
returns-in_err-magic c = grind (arith, common_steps) steps 250000

pub returns-in_err-source-clause-cost : goal.returns-in_err-source-clause-cost
returns-in_err-source-clause-cost c = search rules depth 1 fits 30

pub returns-in_err-source-clause-early : goal.returns-in_err-source-clause-early
returns-in_err-source-clause-early c = grind (arith, common_steps) steps 250000

pub returns-in_err-source-clause-ok : goal.returns-in_err-source-clause-ok
returns-in_err-source-clause-ok c = grind (arith, common_steps) steps 250000

pub returns-in_err-source-clause-policy : goal.returns-in_err-source-clause-policy
returns-in_err-source-clause-policy c = grind (arith, common_steps) steps 250000

pub returns-in_err-version-clause-cost : goal.returns-in_err-version-clause-cost
returns-in_err-version-clause-cost c = search rules depth 1 fits 30

pub returns-in_err-version-clause-early : goal.returns-in_err-version-clause-early
returns-in_err-version-clause-early c = grind (arith, common_steps) steps 250000

pub returns-in_err-version-clause-err : goal.returns-in_err-version-clause-err
returns-in_err-version-clause-err c = grind (arith, elements) steps 250000

pub returns-in_err-version-clause-ok : goal.returns-in_err-version-clause-ok
returns-in_err-version-clause-ok c = grind (arith, common_steps) steps 250000

pub returns-in_err-version-clause-policy : goal.returns-in_err-version-clause-policy
returns-in_err-version-clause-policy c = grind (arith, common_steps) steps 250000

pub source-requires : goal.source-requires
source-requires c = search rules depth 1 fits 30

pub version-requires : goal.version-requires
version-requires c = search rules depth 1 fits 30
