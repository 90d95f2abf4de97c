use Rattle.std.proofs.Common.{◌+◌, ◌∙◌, ◌∷◌, ◌++◌, [], None, ap, arith, map, sym}
use Rattle.std.specs.List.{sum_by}
use Rattle.std.proofs.lemmas.List.{append-nil, drop_all, take_all}
use Rattle.std.proofs.lemmas.List.Sums.{sum_by-take-le, sum_by_more}
use Rattle.ppd_graph.specs.LogRecord.{sets_from}
use Rattle.ppd_graph.specs.Spending.{list_cost}
use Rattle.ppd_graph.proofs.Counted.{mapped_more}
use Rattle.ppd_graph.proofs.sets.all_sets.Goals as goal

pub loop-list-preserved : goal.loop-list-preserved
loop-list-preserved g c =
    let lists = c.args.lists.now in
    let i = c.loop-list.list-index in
    let is = c.as_slice.ensures ∙ c.list-item.is in
    let more = sum_by_more list_cost lists i c.list-item.result c.loop-list-test.true in
    let same = ap list_cost is in
    record {
      holds = mapped_more (sets_from None) lists i c.list-item.result c.loop-list.all c.push.new.self _ c.loop-list-test.true c.loop-list.invariant.holds
          (c.in_ok-push.ensures.ok ∙ ap (λ e. c.loop-list.all ++ e ∷ []) (c.in_ok-edges.ensures.edges ∙ ap (sets_from None) is));
      spent = omega (arith, more, same, c.tick.ensures, c.in_ok-edges.ensures.taken, c.loop-list.invariant.spent);
    }

pub returns-clause-cost : goal.returns-clause-cost
returns-clause-cost g c = let less = sum_by-take-le list_cost c.args.lists.now c.loop-list.list-index in omega (arith, less, c.loop-list.invariant.spent)

pub returns-clause-taken : goal.returns-clause-taken
returns-clause-taken g c =
    let all = ap (sum_by list_cost) (take_all c.loop-list.list-index c.args.lists.now (omega (arith, c.loop-list-test.false))) in
    omega (arith, all, c.loop-list.invariant.spent)

pub returns-in_err-edges-clause-cost : goal.returns-in_err-edges-clause-cost
returns-in_err-edges-clause-cost g c =
    let lists = c.args.lists.now in
    let i = c.loop-list.list-index in
    let more = sum_by_more list_cost lists i c.list-item.result c.loop-list-test.true in
    let same = ap list_cost (c.as_slice.ensures ∙ c.list-item.is) in
    let less = sum_by-take-le list_cost lists (i + 1) in
    omega (arith, more, same, less, c.tick.ensures, c.in_err-edges.ensures.cost, c.loop-list.invariant.spent)

pub returns-in_err-push-clause-cost : goal.returns-in_err-push-clause-cost
returns-in_err-push-clause-cost g c =
    let lists = c.args.lists.now in
    let i = c.loop-list.list-index in
    let more = sum_by_more list_cost lists i c.list-item.result c.loop-list-test.true in
    let same = ap list_cost (c.as_slice.ensures ∙ c.list-item.is) in
    let less = sum_by-take-le list_cost lists (i + 1) in
    omega (arith, more, same, less, c.tick.ensures, c.in_ok-edges.ensures.cost, c.loop-list.invariant.spent)

pub returns-clause-edges : goal.returns-clause-edges
returns-clause-edges g c =
    let lists = c.args.lists.now in
    sym (ap (λ rest. c.loop-list.all ++ map (sets_from None) rest) (drop_all c.loop-list.list-index lists c.loop-list-test.false) ∙ append-nil c.loop-list.all) ∙ c.loop-list.invariant.holds
