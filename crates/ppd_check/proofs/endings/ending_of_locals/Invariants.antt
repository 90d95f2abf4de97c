use Rattle.std.proofs.Common.{◌≡◌, take, ◌≤◌, ◌+◌}
use Rattle.ppd_check.specs.Endings.{ending}
use Rattle.ppd_check_names.specs.Nodes.{phrases_of}
use Rattle.ppd_check_names.specs.Reading.{locals}
use Rattle.ppd_check.proofs.endings.ending_of_locals.Given as goal

-- that of the children before
abbrev pub invariant-loop-child : goal.invariant-loop-child
invariant-loop-child g l = record {
  ending : l.last ≡ ending (locals (phrases_of l.source.nodes.now (take l.child-index l.child-items)));
  cost : l.steps ≤ l.fn.steps + l.child-index;
}
