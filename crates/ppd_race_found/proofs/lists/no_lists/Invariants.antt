use Rattle.std.proofs.Common.{◌≡◌, ◌+◌, [], replicate}
use Rattle.ppd_race_found.proofs.lists.no_lists.Given as goal

abbrev pub invariant-loop-place : goal.invariant-loop-place
invariant-loop-place g l = record {
  none : l.lists.items ≡ replicate l._place [];
  spent : l.steps ≡ l.fn.steps + l._place;
}
