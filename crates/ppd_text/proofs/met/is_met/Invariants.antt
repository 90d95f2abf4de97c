use Rattle.std.proofs.Common.{◌≡◌, false, take}
use Rattle.std.specs.List.{list_any}
use Rattle.ppd_ast.specs.Cells.{holds}
use Rattle.ppd_text.proofs.met.is_met.Given as goal

abbrev pub invariant-loop-cell : goal.invariant-loop-cell
invariant-loop-cell l = list_any (λ c. holds c l.var) (take l.cell-index l.cells) ≡ false
