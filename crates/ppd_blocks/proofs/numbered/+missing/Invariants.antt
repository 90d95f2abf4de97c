use Rattle.std.proofs.Common.{◌≡◌, ◌+◌, ◌*◌, ◌-◌, length, take}
use Rattle.std.specs.List.{flat_map}
use Rattle.ppd_ast.specs.Order.{preorder}
use Rattle.ppd_blocks.proofs.numbered.+missing.Given as goal

abbrev pub decreases-missing_in : goal.decreases-missing_in
decreases-missing_in l = 2 * l.depth

abbrev pub decreases-missing_inside : goal.decreases-missing_inside
decreases-missing_inside l = 2 * l.depth + 1

abbrev pub invariant-missing_in-loop-number : goal.invariant-missing_in-loop-number
invariant-missing_in-loop-number l = l.missing ≡ l.wanted - length (flat_map (preorder l.depth l.stmts) (take l.number-index l.list))
