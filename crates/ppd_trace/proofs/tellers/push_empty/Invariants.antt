use Rattle.std.proofs.Common.{◌≡◌, ◌≤◌, ◌+◌, ◌*◌, ◌++◌, []}
use Rattle.std.specs.Prelude.{replicate}
use Rattle.ppd_trace.proofs.tellers.push_empty.Given as goal

abbrev pub invariant-loop-index : goal.invariant-loop-index
invariant-loop-index g l = record {
  empty : l.lists.items ≡ l.fn.lists.items ++ replicate l._index [];
  spent : l.steps ≤ l.fn.steps + 2 * l._index;
}
