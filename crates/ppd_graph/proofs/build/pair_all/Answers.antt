use Rattle.std.proofs.Common.{arith, length, ap, subst, ◌∙◌, filter_map, map}
use Rattle.ppd_graph.specs.ByNumber.{KeepsAll, partner_kept}
use Rattle.ppd_graph.specs.Refusals.{AreNumbered}
use Rattle.ppd_model.specs.RecordedSets.{sync_in}
use Rattle.ppd_graph.proofs.Vocabulary.{placed_lists}
use Rattle.std.specs.List.{sum_by}
use Rattle.ppd_graph.specs.Spending.{entries_in, list_cost, pass_cost}
use Rattle.ppd_graph.proofs.Counted.{pair_spent, placed_within}
use Rattle.ppd_graph.proofs.Partnered.{pairs_same}
use Rattle.ppd_graph.proofs.build.pair_all.Goals as goal

pub returns-clause-pairs : goal.returns-clause-pairs
returns-clause-pairs g c =
    let nodes = c.in_ok-nodes.nodes in
    let are = c.as_slice.ensures ∙ c.in_ok-placed.ensures.placed ∙ ap (placed_lists 0) c.as_slice-lists.ensures in
    c.in_ok-pairs.ensures.pairs ∙ ap (λ lists. map (map (partner_kept c.args.program.now nodes)) (map (filter_map sync_in) lists)) c.as_slice-lists.ensures
    ∙ pairs_same c.args.program.now c.args.logs.now nodes (subst (KeepsAll nodes) are c.in_ok-nodes.ensures.kept)

pub returns-clause-cost : goal.returns-clause-cost
returns-clause-cost g c =
    let same = ap (sum_by list_cost) c.as_slice-lists.ensures in
    let all = c.in_ok-placed.ensures.placed ∙ ap (placed_lists 0) c.as_slice-lists.ensures in
    let few = placed_within c.in_ok-placed.placed c.args.logs.now.lists all in
    let count = ap length c.as_slice.ensures in
    pair_spent c.args.steps.now c.all_placed.new.steps c.number_all.new.steps _ (length c.in_ok-placed.placed) (entries_in c.args.logs.now) (pass_cost c.args.logs.now) (length c.args.program.now.sems) (length c.args.program.now.chans)
    (omega (arith, same, c.in_ok-placed.ensures.cost)) (omega (arith, count, c.in_ok-nodes.ensures.cost)) few (omega (arith, same, c.in_ok-pairs.ensures.cost))

pub returns-clause-passed : goal.returns-clause-passed
returns-clause-passed g c =
    let are = c.as_slice.ensures ∙ c.in_ok-placed.ensures.placed ∙ ap (placed_lists 0) c.as_slice-lists.ensures in
    subst (AreNumbered c.args.program.now) are c.in_ok-nodes.ensures.passed
