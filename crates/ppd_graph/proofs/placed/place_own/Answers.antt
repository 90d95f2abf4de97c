use Rattle.std.proofs.Common.{◌+◌, ◌∷◌, ◌++◌, ap, arith, drop, is_some, sym, ◌∙◌}
use Rattle.std.proofs.lemmas.List.{drop_more}
use Rattle.ppd_model.specs.RecordedSets.{sync_in}
use Rattle.ppd_graph.specs.Refusals.{placed_from}
use Rattle.ppd_graph.proofs.Counted.{one_or_none}
use Rattle.ppd_graph.proofs.placed.place_own.Goals as goal

pub loop-index-preserved : goal.loop-index-preserved
loop-index-preserved g c =
    let entries = c.args.entries.now in
    let i = c.loop-index.index in
    let entry = c.index-entries-index.result in
    let rest = drop (i + 1) entries in
    let next = one_or_none (is_some (sync_in entry)) c.loop-index.sync _ c.in_ok-sync.ensures.next in
    record {
      below = omega (arith, next, c.loop-index.invariant.below);
      placed = c.in_ok-sync.ensures.placed rest
          ∙ ap (λ es. c.loop-index.placed ++ placed_from c.args.process i c.loop-index.sync es) (ap (λ e. e ∷ rest) c.index-entries-index.is ∙ sym (drop_more entries i entry c.loop-index-test.true)) ∙ c.loop-index.invariant.placed;
      spent = omega (arith, c.tick.ensures, c.loop-index.invariant.spent);
    }
