use Rattle.std.proofs.Common.{◌≡◌, take}
use Rattle.std.specs.List.{flat_map, fold}
use Rattle.test_valid.specs.Tally.{tally}
use Rattle.ppd_ast.specs.Uses.{stmt_uses}
use Rattle.test_valid.proofs.uses.tally_stmts.Given as goal

abbrev pub invariant-loop-stmt : goal.invariant-loop-stmt
invariant-loop-stmt l = l.marks ≡ fold (tally l.start) l.fn.marks (flat_map stmt_uses (take l.stmt-index l.stmts))
