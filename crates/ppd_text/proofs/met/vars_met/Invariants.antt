use Rattle.std.proofs.Common.{◌≡◌}
use Rattle.std.specs.Prelude.{slice_get}
use Rattle.ppd_ast.specs.Members.{those}
use Rattle.ppd_sets.specs.Used.{is_met}
use Rattle.ppd_text.proofs.met.vars_met.Given as goal

abbrev pub invariant-loop-number : goal.invariant-loop-number
invariant-loop-number l = l.numbers ≡ those l.number (λ v. is_met l.cells (slice_get l.vars v))
