use Rattle.std.proofs.Common.{◌≡◌, take}
use Rattle.std.specs.List.{fold}
use Rattle.test_valid.specs.Tally.{tally}
use Rattle.ppd_ast.specs.Uses.{kind_uses}
use Rattle.test_valid.proofs.uses.tally_uses.Given as goal

abbrev pub invariant-loop-place : goal.invariant-loop-place
invariant-loop-place l = l.marks ≡ fold (tally l.start) l.fn.marks (take l.place (kind_uses l.kind))
