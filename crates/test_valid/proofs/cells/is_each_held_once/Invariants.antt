use Rattle.std.proofs.Common.{◌≡◌, ◌<◌, ℕ}
use Rattle.std.specs.List.{count_by}
use Rattle.ppd_ast.specs.Cells.{holds}
use Rattle.test_valid.proofs.cells.is_each_held_once.Given as goal

abbrev pub invariant-loop-cell : goal.invariant-loop-cell
invariant-loop-cell l = (c : ℕ) → c < l.cell → count_by (holds c) l.vars ≡ 1
