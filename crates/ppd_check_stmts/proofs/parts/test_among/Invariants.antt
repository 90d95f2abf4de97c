use Rattle.std.proofs.Common.{◌-◌, ◌+◌, ◌≤◌}
use Rattle.ppd_check_names.specs.Nodes.{phrases_below}
use Rattle.ppd_check_stmts.proofs.Rows.Semicolons.{Sought}
use Rattle.ppd_check_stmts.proofs.parts.test_among.Given as goal

-- no expression stands before the child that is looked at, and each child took a step
abbrev pub invariant-loop-at : goal.invariant-loop-at
invariant-loop-at g l = record {
  sought : Sought (phrases_below l.source.nodes.now l.id) l.from l.end l.at;
  cost : l.steps + l.from ≤ l.fn.steps + l.at;
}

abbrev pub decreases-loop-at : goal.decreases-loop-at
decreases-loop-at g l = l.end - l.at
