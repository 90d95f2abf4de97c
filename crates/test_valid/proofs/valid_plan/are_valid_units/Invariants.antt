use Rattle.std.proofs.Common.{ℕ, ◌<◌, get_or}
use Rattle.ppd_ast.specs.ValidPlan.{AreCells}
use Rattle.ppd_ast.specs.declared.plan.Unit.{Unit}
use Rattle.test_valid.proofs.valid_plan.are_valid_units.Given as goal

abbrev pub invariant-loop-index : goal.invariant-loop-index
invariant-loop-index l = (k : ℕ) (d : Unit) → k < l.index → AreCells l.cells (get_or l.units k d).cells
