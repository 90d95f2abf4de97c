use Rattle.std.proofs.Common.{◌+◌, ◌∙◌, ◌∷◌, ◌++◌, [], ap, arith, filter_map, map, sym, rules}
use Rattle.std.specs.List.{sum_by}
use Rattle.std.proofs.lemmas.List.{append-nil, drop_all, take_all}
use Rattle.std.proofs.lemmas.List.Sums.{sum_by-take-le, sum_by_more}
use Rattle.ppd_model.specs.RecordedSets.{sync_in}
use Rattle.ppd_graph.specs.ByNumber.{partner_kept}
use Rattle.ppd_graph.specs.Spending.{list_cost}
use Rattle.ppd_graph.proofs.Counted.{mapped_twice}
use Rattle.ppd_graph.proofs.partners.all_pairs.Goals as goal
use Rattle.std.proofs.lemmas.Grind.{common_steps, elements}

pub loop-list-preserved : goal.loop-list-preserved
loop-list-preserved g c =
    let lists = c.args.lists.now in
    let i = c.loop-list.list-index in
    let is = c.as_slice.ensures ∙ c.list-item.is in
    let more = sum_by_more list_cost lists i c.list-item.result c.loop-list-test.true in
    let same = ap list_cost is in
    record {
      holds = mapped_twice (map (partner_kept c.args.program.now c.args.nodes.now)) (filter_map sync_in) lists i c.list-item.result c.loop-list.all c.push.new.self _ c.loop-list-test.true c.loop-list.invariant.holds
          (c.in_ok-push.ensures.ok ∙ ap (λ e. c.loop-list.all ++ e ∷ []) (c.in_ok-pairs.ensures.pairs ∙ ap (λ xs. map (partner_kept c.args.program.now c.args.nodes.now) (filter_map sync_in xs)) is));
      spent = omega (arith, more, same, c.tick.ensures, c.in_ok-pairs.ensures.taken, c.loop-list.invariant.spent);
    }

pub returns-clause-cost : goal.returns-clause-cost
returns-clause-cost g c = let less = sum_by-take-le list_cost c.args.lists.now c.loop-list.list-index in omega (arith, less, c.loop-list.invariant.spent)

pub returns-clause-taken : goal.returns-clause-taken
returns-clause-taken g c =
    let all = ap (sum_by list_cost) (take_all c.loop-list.list-index c.args.lists.now (omega (arith, c.loop-list-test.false))) in
    omega (arith, all, c.loop-list.invariant.spent)

pub returns-in_err-pairs-clause-cost : goal.returns-in_err-pairs-clause-cost
returns-in_err-pairs-clause-cost g c =
    let lists = c.args.lists.now in
    let i = c.loop-list.list-index in
    let more = sum_by_more list_cost lists i c.list-item.result c.loop-list-test.true in
    let same = ap list_cost (c.as_slice.ensures ∙ c.list-item.is) in
    let less = sum_by-take-le list_cost lists (i + 1) in
    omega (arith, more, same, less, c.tick.ensures, c.in_err-pairs.ensures.cost, c.loop-list.invariant.spent)

pub returns-in_err-push-clause-cost : goal.returns-in_err-push-clause-cost
returns-in_err-push-clause-cost g c =
    let lists = c.args.lists.now in
    let i = c.loop-list.list-index in
    let more = sum_by_more list_cost lists i c.list-item.result c.loop-list-test.true in
    let same = ap list_cost (c.as_slice.ensures ∙ c.list-item.is) in
    let less = sum_by-take-le list_cost lists (i + 1) in
    omega (arith, more, same, less, c.tick.ensures, c.in_ok-pairs.ensures.cost, c.loop-list.invariant.spent)

pub returns-clause-pairs : goal.returns-clause-pairs
returns-clause-pairs g c =
    let lists = c.args.lists.now in
    sym (ap (λ rest. c.loop-list.all ++ map (map (partner_kept c.args.program.now c.args.nodes.now)) (map (filter_map sync_in) rest)) (drop_all c.loop-list.list-index lists c.loop-list-test.false) ∙ append-nil c.loop-list.all)
    ∙ c.loop-list.invariant.holds

pub as_slice-requires : goal.as_slice-requires
as_slice-requires c = search rules depth 1 fits 30

pub loop-list-init : goal.loop-list-init
loop-list-init c = search rules depth 1 fits 30

pub loop-list-smaller : goal.loop-list-smaller
loop-list-smaller c = search rules depth 1 fits 30

pub new-all-requires : goal.new-all-requires
new-all-requires c = search rules depth 1 fits 30

pub own_pairs-requires : goal.own_pairs-requires
own_pairs-requires c = search rules depth 1 fits 30

pub push-requires : goal.push-requires
push-requires c = search rules depth 1 fits 30

pub same-all-in-loop-list : goal.same-all-in-loop-list
same-all-in-loop-list c = search rules depth 1 fits 30

pub tick-requires : goal.tick-requires
tick-requires c = search rules depth 1 fits 30

pub returns-in_err-pairs-clause-pairs : goal.returns-in_err-pairs-clause-pairs
returns-in_err-pairs-clause-pairs c = grind (arith, common_steps) steps 250000

pub returns-in_err-pairs-clause-taken : goal.returns-in_err-pairs-clause-taken
returns-in_err-pairs-clause-taken c = grind (arith, common_steps) steps 250000

pub returns-in_err-push-clause-pairs : goal.returns-in_err-push-clause-pairs
returns-in_err-push-clause-pairs c = grind (arith, elements) steps 250000
