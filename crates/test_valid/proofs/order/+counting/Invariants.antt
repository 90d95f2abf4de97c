use Rattle.std.proofs.Common.{◌≡◌, ◌+◌, ◌*◌, Some, take}
use Rattle.std.specs.List.{flat_map}
use Rattle.test_valid.specs.Counting.{counted}
use Rattle.ppd_ast.specs.Order.{preorder}
use Rattle.test_valid.proofs.order.+counting.Given as goal

abbrev pub decreases-counted_in : goal.decreases-counted_in
decreases-counted_in l = 2 * l.depth

abbrev pub decreases-counted_inside : goal.decreases-counted_inside
decreases-counted_inside l = 2 * l.depth + 1

abbrev pub invariant-counted_in-loop-number : goal.invariant-counted_in-loop-number
invariant-counted_in-loop-number l = counted (flat_map (preorder l.depth l.stmts) (take l.number-index l.list)) l.from ≡ Some l.next
