use Rattle.std.proofs.Common.{◌≡◌, ◌++◌, take}
use Rattle.std.specs.Prelude.{codes}
use Rattle.std.specs.List.{flat_map}
use Rattle.ppd_text.specs.Names.{at_number}
use Rattle.ppd_text.proofs.names.put_each.Given as goal

abbrev pub invariant-loop-number : goal.invariant-loop-number
invariant-loop-number l = l.text.items ≡ l.initial.text.items ++ flat_map (λ w. codes " " ++ at_number (λ x. x.name) l.vars w) (take l.number-index l.numbers)
