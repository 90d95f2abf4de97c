use Rattle.std.proofs.Common.{◌≡◌, take, ◌≤◌, ◌+◌, ◌*◌}
use Rattle.ppd_check_stmts.specs.Writing.{Argued}
use Rattle.ppd_check_names.specs.Cost.{total, plain_at, nested_at}
use Rattle.ppd_check_stmts.proofs.calls.arguments.Given as goal

abbrev pub invariant-loop-child : goal.invariant-loop-child
invariant-loop-child g l = record {
  stmts : l.table.stmts ≡ l.fn.table.stmts;
  argued : Argued l.source.nodes.now l.frame.scopes (take l.child-index l.child-items) l.fn.table.exprs l.table.exprs l.fn.args l.args l.fn.table.found l.table.found;
  cost : l.steps ≤ l.fn.steps + 11 * total (plain_at l.source.nodes.now) (take l.child-index l.child-items) + 11 * total (nested_at l.source.nodes.now) (take l.child-index l.child-items);
}
