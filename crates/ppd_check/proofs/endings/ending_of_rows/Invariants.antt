use Rattle.std.proofs.Common.{◌≡◌, take, ◌≤◌, ◌+◌, ◌*◌}
use Rattle.ppd_check.specs.Endings.{ending}
use Rattle.ppd_check_names.specs.Nodes.{phrases_of}
use Rattle.ppd_check_names.specs.Reading.{rows}
use Rattle.ppd_check_names.specs.Cost.{total, plain_at, nested_at}
use Rattle.ppd_check.proofs.endings.ending_of_rows.Given as goal

-- that of the children before
abbrev pub invariant-loop-child : goal.invariant-loop-child
invariant-loop-child g l = record {
  ending : l.last ≡ ending (rows (phrases_of l.source.nodes.now (take l.child-index l.child-items)));
  cost : l.steps ≤ l.fn.steps + total (plain_at l.source.nodes.now) (take l.child-index l.child-items) + 2 * total (nested_at l.source.nodes.now) (take l.child-index l.child-items);
}
