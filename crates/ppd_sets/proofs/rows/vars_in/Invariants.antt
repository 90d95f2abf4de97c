use Rattle.std.proofs.Common.{◌≡◌}
use Rattle.std.specs.Prelude.{slice_get}
use Rattle.ppd_ast.specs.Members.{those}
use Rattle.ppd_sets.specs.Used.{is_met}
use Rattle.ppd_sets.proofs.rows.vars_in.Given as goal

abbrev pub invariant-loop-number : goal.invariant-loop-number
invariant-loop-number l = l.ids ≡ those l.number (λ v. is_met l.set (slice_get l.vars v))
