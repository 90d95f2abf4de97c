use Rattle.std.proofs.Common.{◌++◌, ◌∷◌, [], ap, arith, ◌∙◌}
use Rattle.std.proofs.lemmas.List.{replicate_more}
use Rattle.ppd_graph.proofs.times.no_times.Goals as goal

pub loop-index-preserved : goal.loop-index-preserved
loop-index-preserved g c = record {
  holds = c.in_ok-push_empty.ensures ∙ ap (λ rows. rows ++ [] ∷ []) c.loop-index.invariant.holds ∙ replicate_more c.loop-index._index [];
  spent = omega (arith, c.tick.ensures, c.loop-index.invariant.spent);
}
