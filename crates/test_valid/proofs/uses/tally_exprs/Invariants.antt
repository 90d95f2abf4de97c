use Rattle.std.proofs.Common.{◌≡◌, take}
use Rattle.std.specs.List.{flat_map, fold}
use Rattle.test_valid.specs.Tally.{tally}
use Rattle.ppd_ast.specs.Uses.{children}
use Rattle.test_valid.proofs.uses.tally_exprs.Given as goal

abbrev pub invariant-loop-expr : goal.invariant-loop-expr
invariant-loop-expr l = l.marks ≡ fold (tally l.start) l.fn.marks (flat_map children (take l.expr-index l.exprs))
