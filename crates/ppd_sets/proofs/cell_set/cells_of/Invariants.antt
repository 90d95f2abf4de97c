use Rattle.std.proofs.Common.{◌≡◌}
use Rattle.ppd_ast.specs.Members.{those}
use Rattle.ppd_sets.specs.CellSets.{is_held}
use Rattle.ppd_sets.proofs.cell_set.cells_of.Given as goal

abbrev pub invariant-loop-cell : goal.invariant-loop-cell
invariant-loop-cell l = l.cells ≡ those l.cell (is_held l.words)
