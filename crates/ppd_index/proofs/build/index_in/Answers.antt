use Rattle.std.proofs.Common.{◌≡◌, ◌+◌, ◌<◌, ◌^◌, List, None, drop, length, subst, sym, ap, ◌∙◌, arith}
use Rattle.std.specs.List.{All, sum_by}
use Rattle.std.proofs.lemmas.List.{drop_all, take_all}
use Rattle.std.proofs.lemmas.List.Elements.{All-push}
use Rattle.std.proofs.lemmas.List.Sums.{sum_by-take-le, sum_by_more}
use Rattle.ppd_model.specs.declared.entry.Entry.{Entry}
use Rattle.ppd_model.specs.Bounds.{AreEach}
use Rattle.ppd_index.specs.declared.row.Row.{Row}
use Rattle.ppd_index.specs.Indexes.{AreIntervals}
use Rattle.ppd_index.specs.Refusals.{first_bad, first_in_lists}
use Rattle.ppd_index.specs.Spending.{list_cost, list_least}
use Rattle.ppd_index.specs.Tables.{rows_of}
use Rattle.ppd_index.proofs.Found.{list_passed, tables_next}
use Rattle.ppd_index.proofs.Lent.{all_fit}
use Rattle.ppd_index.proofs.Tabled.{index_whole}
use Rattle.ppd_index.proofs.build.index_in.Goals as goal

pub loop-p-preserved : goal.loop-p-preserved
loop-p-preserved g c =
    let program = c.args.program.now in
    let plan = c.args.plan.now in
    let lists = c.as_slice-lists.result.now in
    let p = c.loop-p.p in
    let es = c.index-lists-p.result in
    let is = c.index-lists-p.is in
    let lent = c.as_slice.ensures in
    let same_least = ap list_least (lent ∙ is) in
    let same_cost = ap list_cost (lent ∙ is) in
    let more_least = sum_by_more list_least lists p es c.loop-p-test.true in
    let more_cost = sum_by_more list_cost lists p es c.loop-p-test.true in
    record {
      tables = tables_next plan lists p es c.loop-p.tables c.push.new.self c.in_ok-rows.rows c.loop-p-test.true is c.in_ok-push.ensures.ok (c.in_ok-rows.ensures.rows ∙ ap (rows_of plan) lent) c.loop-p.invariant.tables;
      few = subst (λ (ts : List (List Row)). All (λ (rows : List Row). length rows < 2 ^ 32) ts) (sym c.in_ok-push.ensures.ok) (All-push (λ (rows : List Row). length rows < 2 ^ 32) c.loop-p.tables c.in_ok-rows.rows c.loop-p.invariant.few c.in_ok-rows.ensures.few);
      found = list_passed program plan lists p es c.loop-p-test.true is (subst (λ (xs : List Entry). first_bad program plan p xs ≡ None) lent c.in_ok-rows.ensures.passed) c.loop-p.invariant.found;
      least = omega (arith, more_least, same_least, c.tick.ensures, c.in_ok-rows.ensures.least, c.loop-p.invariant.least);
      spent = omega (arith, more_cost, same_cost, c.tick.ensures, c.in_ok-rows.ensures.cost, c.loop-p.invariant.spent);
    }

pub returns-in_err-rows-clause-cost : goal.returns-in_err-rows-clause-cost
returns-in_err-rows-clause-cost g c =
    let lists = c.as_slice-lists.result.now in
    let p = c.loop-p.p in
    let same = ap list_cost (c.as_slice.ensures ∙ c.index-lists-p.is) in
    let more = sum_by_more list_cost lists p c.index-lists-p.result c.loop-p-test.true in
    let less = sum_by-take-le list_cost lists (p + 1) in
    let all = ap (sum_by list_cost) c.as_slice-lists.ensures in
    omega (arith, more, less, same, all, c.tick.ensures, c.in_err-rows.ensures.cost, c.loop-p.invariant.spent)

pub returns-in_err-push-clause-cost : goal.returns-in_err-push-clause-cost
returns-in_err-push-clause-cost g c =
    let lists = c.as_slice-lists.result.now in
    let p = c.loop-p.p in
    let same = ap list_cost (c.as_slice.ensures ∙ c.index-lists-p.is) in
    let more = sum_by_more list_cost lists p c.index-lists-p.result c.loop-p-test.true in
    let less = sum_by-take-le list_cost lists (p + 1) in
    let all = ap (sum_by list_cost) c.as_slice-lists.ensures in
    omega (arith, more, less, same, all, c.tick.ensures, c.in_ok-rows.ensures.cost, c.loop-p.invariant.spent)

pub returns-clause-index : goal.returns-clause-index
returns-clause-index g c =
    let lists = c.as_slice-lists.result.now in
    subst (λ (ls : List (List Entry)). AreEach (AreIntervals c.args.plan.now) c.loop-p.tables ls) c.as_slice-lists.ensures
    (index_whole c.args.plan.now lists c.loop-p.tables (drop c.loop-p.p lists) (drop_all c.loop-p.p lists c.loop-p-test.false) c.loop-p.invariant.tables)

pub returns-clause-fitting : goal.returns-clause-fitting
returns-clause-fitting g c =
    let lists = c.as_slice-lists.result.now in
    let first = first_in_lists c.args.program.now c.args.plan.now in
    let none : first 0 c.args.logs.now.lists ≡ None =
    ap (λ (ls : List (List Entry)). first 0 ls) (sym c.as_slice-lists.ensures) ∙ (sym c.loop-p.invariant.found ∙ ap (λ (ls : List (List Entry)). first c.loop-p.p ls) (drop_all c.loop-p.p lists c.loop-p-test.false)) in
    all_fit c.args.program.now c.args.plan.now c.args.logs.now none

pub returns-clause-passed : goal.returns-clause-passed
returns-clause-passed g c =
    let lists = c.as_slice-lists.result.now in
    let first = first_in_lists c.args.program.now c.args.plan.now in
    ap (λ (ls : List (List Entry)). first 0 ls) (sym c.as_slice-lists.ensures) ∙ (sym c.loop-p.invariant.found ∙ ap (λ (ls : List (List Entry)). first c.loop-p.p ls) (drop_all c.loop-p.p lists c.loop-p-test.false))

pub returns-clause-cost : goal.returns-clause-cost
returns-clause-cost g c =
    let less = sum_by-take-le list_cost c.as_slice-lists.result.now c.loop-p.p in
    let all = ap (sum_by list_cost) c.as_slice-lists.ensures in
    omega (arith, less, all, c.loop-p.invariant.spent)

pub returns-clause-least : goal.returns-clause-least
returns-clause-least g c =
    let lists = c.as_slice-lists.result.now in
    let whole = ap (sum_by list_least) (take_all c.loop-p.p lists (omega (arith, c.loop-p-test.false))) in
    let all = ap (sum_by list_least) c.as_slice-lists.ensures in
    omega (arith, whole, all, c.loop-p.invariant.least)
