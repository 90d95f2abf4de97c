use Rattle.std.proofs.Common.{◌∙◌, ◌++◌, ◌+◌, ap, arith, sym}
use Rattle.std.specs.List.{sum_by}
use Rattle.std.proofs.lemmas.List.{append-nil, drop_all, take_all}
use Rattle.std.proofs.lemmas.List.Sums.{sum_by-take-le, sum_by_more}
use Rattle.ppd_graph.specs.Refusals.{placed_from}
use Rattle.ppd_graph.specs.Spending.{list_cost}
use Rattle.ppd_graph.proofs.Counted.{placed_more}
use Rattle.ppd_graph.proofs.Vocabulary.{placed_lists}
use Rattle.ppd_graph.proofs.placed.all_placed.Goals as goal

pub loop-process-preserved : goal.loop-process-preserved
loop-process-preserved g c =
    let lists = c.args.lists.now in
    let p = c.loop-process.process in
    let is = c.as_slice.ensures ∙ c.index-lists-process.is in
    let more = sum_by_more list_cost lists p c.index-lists-process.result c.loop-process-test.true in
    let same = ap list_cost is in
    record {
      holds = placed_more lists p c.index-lists-process.result c.loop-process.placed c.place_own.new.placed _ c.loop-process-test.true c.loop-process.invariant.holds (c.in_ok-place_own.ensures.placed ∙ ap (λ xs. c.loop-process.placed ++ placed_from p 0 0 xs) is);
      spent = omega (arith, more, same, c.tick.ensures, c.in_ok-place_own.ensures.taken, c.loop-process.invariant.spent);
    }

pub returns-clause-cost : goal.returns-clause-cost
returns-clause-cost g c = let less = sum_by-take-le list_cost c.args.lists.now c.loop-process.process in omega (arith, less, c.loop-process.invariant.spent)

pub returns-clause-taken : goal.returns-clause-taken
returns-clause-taken g c =
    let all = ap (sum_by list_cost) (take_all c.loop-process.process c.args.lists.now (omega (arith, c.loop-process-test.false))) in
    omega (arith, all, c.loop-process.invariant.spent)

pub returns-in_err-place_own-clause-cost : goal.returns-in_err-place_own-clause-cost
returns-in_err-place_own-clause-cost g c =
    let lists = c.args.lists.now in
    let p = c.loop-process.process in
    let more = sum_by_more list_cost lists p c.index-lists-process.result c.loop-process-test.true in
    let same = ap list_cost (c.as_slice.ensures ∙ c.index-lists-process.is) in
    let less = sum_by-take-le list_cost lists (p + 1) in
    omega (arith, more, same, less, c.tick.ensures, c.in_err-place_own.ensures.cost, c.loop-process.invariant.spent)

pub returns-clause-placed : goal.returns-clause-placed
returns-clause-placed g c =
    let lists = c.args.lists.now in
    let p = c.loop-process.process in
    sym (ap (λ rest. c.loop-process.placed ++ placed_lists p rest) (drop_all p lists c.loop-process-test.false) ∙ append-nil c.loop-process.placed) ∙ c.loop-process.invariant.holds
