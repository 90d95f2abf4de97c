use Rattle.std.proofs.Common.{◌≡◌, ℕ, [], ◌<◌, ◌+◌, ◌^◌, get_or, length}
use Rattle.ppd_graph.proofs.build.are_few.Given as goal

abbrev pub invariant-loop-list : goal.invariant-loop-list
invariant-loop-list g l = record {
  holds : (p : ℕ) → p < l.list-index → length (get_or l.lists p []) + 1 < 2 ^ 32;
  spent : l.steps ≡ l.fn.steps + l.list-index;
}
