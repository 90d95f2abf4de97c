use Rattle.std.proofs.Common.{◌+◌, ◌*◌, take, false}
use Rattle.std.specs.List.{flat_map}
use Rattle.ppd_ast.specs.Order.{preorder}
use Rattle.ppd_sets.specs.Gained.{GainsBoth}
use Rattle.ppd_sets.specs.Used.{reads_at, writes_at}
use Rattle.ppd_sets.proofs.loops.+within.Given as goal

abbrev pub decreases-add_within : goal.decreases-add_within
decreases-add_within l = 3 * l.depth + 2

abbrev pub decreases-add_stmt : goal.decreases-add_stmt
decreases-add_stmt l = 3 * l.depth + 1

abbrev pub decreases-add_inside : goal.decreases-add_inside
decreases-add_inside l = 3 * l.depth + 3

abbrev pub invariant-add_within-loop-number : goal.invariant-add_within-loop-number
invariant-add_within-loop-number l =
    GainsBoth l.fn.touched l.touched (flat_map (reads_at false l.program) (flat_map (preorder l.depth l.program.stmts) (take l.number-index l.list)))
    (flat_map (writes_at false l.program) (flat_map (preorder l.depth l.program.stmts) (take l.number-index l.list)))
