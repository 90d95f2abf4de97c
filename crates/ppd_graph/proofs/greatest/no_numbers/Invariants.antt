use Rattle.std.proofs.Common.{◌≡◌, ℕ, get_or, length, ◌+◌}
use Rattle.ppd_graph.proofs.greatest.no_numbers.Given as goal

abbrev pub invariant-loop-object : goal.invariant-loop-object
invariant-loop-object g l = record {
  long : length l.numbers ≡ l._object;
  none : (o : ℕ) → get_or l.numbers o 0 ≡ 0;
  spent : l.steps ≡ l.fn.steps + l._object;
}
