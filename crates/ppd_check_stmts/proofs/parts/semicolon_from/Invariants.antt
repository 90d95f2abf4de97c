use Rattle.std.proofs.Common.{◌-◌, ◌+◌, ◌≤◌, length}
use Rattle.ppd_check_names.specs.Nodes.{phrases_below}
use Rattle.ppd_check_stmts.proofs.Rows.Semicolons.{Searched}
use Rattle.ppd_check_stmts.proofs.parts.semicolon_from.Given as goal

-- no semicolon stands before the child that is looked at, and each child took a step
abbrev pub invariant-loop-at : goal.invariant-loop-at
invariant-loop-at g l = record {
  searched : Searched (phrases_below l.source.nodes.now l.id) l.from l.at;
  few : l.at ≤ l.from + length (phrases_below l.source.nodes.now l.id);
  cost : l.steps + l.from ≤ l.fn.steps + l.at;
}

abbrev pub decreases-loop-at : goal.decreases-loop-at
decreases-loop-at g l = l.count - l.at
