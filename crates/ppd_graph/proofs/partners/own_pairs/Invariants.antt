use Rattle.std.proofs.Common.{◌≡◌, ◌++◌, drop, filter_map, map, ◌+◌}
use Rattle.ppd_graph.specs.ByNumber.{partner_kept}
use Rattle.ppd_model.specs.RecordedSets.{sync_in}
use Rattle.ppd_graph.proofs.partners.own_pairs.Given as goal

abbrev pub invariant-loop-entry : goal.invariant-loop-entry
invariant-loop-entry g l = record {
  holds : l.pairs ++ map (partner_kept l.program l.nodes) (filter_map sync_in (drop l.entry-index l.entries)) ≡ map (partner_kept l.program l.nodes) (filter_map sync_in l.entries);
  spent : l.steps ≡ l.fn.steps + l.entry-index;
}
