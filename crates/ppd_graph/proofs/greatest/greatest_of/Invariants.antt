use Rattle.std.proofs.Common.{◌≡◌, ℕ, drop, get_or, length, map, ◌+◌}
use Rattle.ppd_ast.specs.declared.limits.TheConstants.{MOST_NAMED}
use Rattle.ppd_graph.specs.Refusals.{numbers_of, sync_placed}
use Rattle.ppd_graph.proofs.Vocabulary.{greatest}
use Rattle.ppd_graph.proofs.greatest.greatest_of.Given as goal

abbrev pub invariant-loop-one : goal.invariant-loop-one
invariant-loop-one g l = record {
  long : length l.numbers ≡ MOST_NAMED;
  greatest : (o : ℕ) → greatest (get_or l.numbers o 0) (numbers_of l.kind o (map sync_placed (drop l.one-index l.placed)))
      ≡ greatest 0 (numbers_of l.kind o (map sync_placed l.placed));
  spent : l.steps ≡ l.fn.steps + MOST_NAMED + l.one-index;
}
