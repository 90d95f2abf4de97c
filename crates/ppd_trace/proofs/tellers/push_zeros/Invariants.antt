use Rattle.std.proofs.Common.{◌≡◌, ◌≤◌, ◌+◌, ◌*◌, ◌++◌}
use Rattle.std.specs.Prelude.{replicate}
use Rattle.ppd_trace.proofs.tellers.push_zeros.Given as goal

abbrev pub invariant-loop-index : goal.invariant-loop-index
invariant-loop-index g l = record {
  zeros : l.counts ≡ l.fn.counts ++ replicate l._index 0;
  spent : l.steps ≤ l.fn.steps + 2 * l._index;
}
