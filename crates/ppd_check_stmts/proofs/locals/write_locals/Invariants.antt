use Rattle.std.proofs.Common.{take, ◌≤◌, ◌+◌, ◌*◌}
use Rattle.ppd_check_names.specs.Nodes.{phrases_of}
use Rattle.ppd_check_names.specs.Reading.{locals}
use Rattle.ppd_check_stmts.specs.Writing.{Walked}
use Rattle.ppd_check_names.specs.Cost.{total, plain_at, nested_at}
use Rattle.ppd_check_stmts.proofs.locals.write_locals.Given as goal

abbrev pub invariant-loop-child : goal.invariant-loop-child
invariant-loop-child g l = record {
  walked : Walked l.level.site (locals (phrases_of l.level.source.nodes.now (take l.child-index l.child-items))) l.fn.frame l.frame l.fn.out.table l.out.table l.fn.out.row l.out.row;
  cost : l.steps ≤ l.fn.steps + 19 * total (plain_at l.level.source.nodes.now) (take l.child-index l.child-items) + 19 * total (nested_at l.level.source.nodes.now) (take l.child-index l.child-items);
}
