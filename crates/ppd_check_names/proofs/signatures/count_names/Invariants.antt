use Rattle.std.proofs.Common.{◌≡◌, length, take, ◌≤◌, ◌+◌}
use Rattle.ppd_check_names.specs.Reading.{params}
use Rattle.ppd_check_names.specs.Nodes.{phrases_below}
use Rattle.ppd_check_names.proofs.signatures.count_names.Given as goal

-- the names among those before
abbrev pub invariant-loop-k : goal.invariant-loop-k
invariant-loop-k g l = record {
  count : l.count ≡ length (params (take l.k (phrases_below l.source.nodes.now l.id)));
  cost : l.steps ≤ l.fn.steps + l.k;
}
