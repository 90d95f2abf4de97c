use Rattle.std.proofs.Common.{◌≡◌, ◌≤◌, ◌+◌, ◌*◌}
use Rattle.ppd_trace.specs.Runs.{all_tagged}
use Rattle.ppd_trace.proofs.activations.set_tags.Given as goal

abbrev pub invariant-loop-index : goal.invariant-loop-index
invariant-loop-index g l = record {
  tags : l.runs ≡ all_tagged l.base l.index l.tag l.fn.runs;
  spent : l.steps ≤ l.fn.steps + 3 * l.index;
}
