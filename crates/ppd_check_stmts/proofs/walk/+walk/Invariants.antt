use Rattle.std.proofs.Common.{◌-◌, ◌*◌, ◌+◌, length, take, ◌≤◌}
use Rattle.ppd_check_names.specs.Nodes.{phrases_of}
use Rattle.ppd_check_names.specs.Reading.{rows}
use Rattle.ppd_check_stmts.specs.Writing.{Walked}
use Rattle.ppd_check_names.specs.Cost.{total, plain_at, nested_at}
use Rattle.ppd_check_stmts.proofs.walk.+walk.Given as goal

-- eight times the nodes from this one on, and how far a function stands above those that go to a later node
abbrev pub decreases-write_rows : goal.decreases-write_rows
decreases-write_rows g l = 8 * (length l.level.source.nodes.now - l.id)

abbrev pub decreases-write_child : goal.decreases-write_child
decreases-write_child g l = 8 * (length l.level.source.nodes.now - l.id)

abbrev pub decreases-write_nested : goal.decreases-write_nested
decreases-write_nested g l = 8 * (length l.level.source.nodes.now - l.id) + 1

abbrev pub decreases-write_inside : goal.decreases-write_inside
decreases-write_inside g l = 8 * (length l.inner.source.nodes.now - l.id) + 1

abbrev pub decreases-write_if : goal.decreases-write_if
decreases-write_if g l = 8 * (length l.level.source.nodes.now - l.id) + 2

abbrev pub decreases-write_while : goal.decreases-write_while
decreases-write_while g l = 8 * (length l.level.source.nodes.now - l.id) + 2

abbrev pub decreases-write_for : goal.decreases-write_for
decreases-write_for g l = 8 * (length l.level.source.nodes.now - l.id) + 2

abbrev pub decreases-write_worded : goal.decreases-write_worded
decreases-write_worded g l = 8 * (length l.level.source.nodes.now - l.id) + 3

abbrev pub decreases-write_stmt : goal.decreases-write_stmt
decreases-write_stmt g l = 8 * (length l.level.source.nodes.now - l.id) + 4

abbrev pub decreases-write_statement : goal.decreases-write_statement
decreases-write_statement g l = 8 * (length l.level.source.nodes.now - l.id) + 5

-- the statements of those before
abbrev pub invariant-write_rows-loop-child : goal.invariant-write_rows-loop-child
invariant-write_rows-loop-child g l = record {
  walked : Walked l.level.site (rows (phrases_of l.level.source.nodes.now (take l.child-index l.child-items))) l.fn.frame l.frame l.fn.out.table l.out.table l.fn.out.row l.out.row;
  cost : l.steps ≤ l.fn.steps + 48 * total (nested_at l.level.source.nodes.now) (take l.child-index l.child-items) + 2 * total (plain_at l.level.source.nodes.now) (take l.child-index l.child-items) + 1;
}
