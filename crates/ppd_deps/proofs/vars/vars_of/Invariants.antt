use Rattle.std.proofs.Common.{◌≡◌, take}
use Rattle.std.specs.Prelude.{slice_get}
use Rattle.std.specs.List.{filter}
use Rattle.ppd_sets.specs.Used.{is_met}
use Rattle.ppd_deps.proofs.vars.vars_of.Given as goal

abbrev pub invariant-loop-number : goal.invariant-loop-number
invariant-loop-number l = l.ids ≡ filter (λ v. is_met l.set (slice_get l.vars v)) (take l.number-index l.numbers)
