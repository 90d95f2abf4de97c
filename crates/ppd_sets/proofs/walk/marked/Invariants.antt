use Rattle.std.proofs.Common.{◌≡◌}
use Rattle.ppd_ast.specs.Members.{those}
use Rattle.ppd_sets.specs.WorkList.{is_marked}
use Rattle.ppd_sets.proofs.walk.marked.Given as goal

abbrev pub invariant-loop-index : goal.invariant-loop-index
invariant-loop-index l = l.ids ≡ those l.index (is_marked l.marks)
