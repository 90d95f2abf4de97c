use Rattle.std.proofs.Common.{◌≡◌, ◌≤◌, ◌+◌, ◌*◌, ◌++◌}
use Rattle.std.specs.Prelude.{replicate}
use Rattle.ppd_activations.proofs.runs.push_copies.Given as goal

abbrev pub invariant-loop-index : goal.invariant-loop-index
invariant-loop-index g l = record {
  copies : l.tags ≡ l.fn.tags ++ replicate l._index l.tag;
  spent : l.steps ≤ l.fn.steps + 2 * l._index;
}
