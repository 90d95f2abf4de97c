use Rattle.std.specs.List.{sum_by}
use Rattle.ppd_graph.specs.Spending.{list_cost}
use Rattle.std.proofs.Common.{◌≡◌, ◌++◌, drop, filter_map, map, ◌+◌, take}
use Rattle.ppd_graph.specs.ByNumber.{partner_kept}
use Rattle.ppd_model.specs.RecordedSets.{sync_in}
use Rattle.ppd_graph.proofs.partners.all_pairs.Given as goal

abbrev pub invariant-loop-list : goal.invariant-loop-list
invariant-loop-list g l = record {
  holds : l.all ++ map (map (partner_kept l.program l.nodes)) (map (filter_map sync_in) (drop l.list-index l.lists)) ≡ map (map (partner_kept l.program l.nodes)) (map (filter_map sync_in) l.lists);
  spent : l.steps ≡ l.fn.steps + sum_by list_cost (take l.list-index l.lists);
}
