use Rattle.std.proofs.Common.{◌≡◌, ◌<◌, ◌^◌, ◌∙◌, [], List, ap, arith, length, subst, sym, rules}
use Rattle.std.specs.List.{sum_by}
use Rattle.std.proofs.lemmas.List.{take_all}
use Rattle.std.proofs.lemmas.List.Sums.{sum_by-take-le, sum_by_more, sum_by_push}
use Rattle.ppd_model.proofs.Lists.{get_or_any}
use Rattle.ppd_race_found.specs.EdgeSets.{EdgeSets}
use Rattle.ppd_race_found.specs.Search.{row_cost}
use Rattle.ppd_race.specs.Spending.{sets_cost, sets_least}
use Rattle.ppd_race.proofs.BusyRows.{rows_more}
use Rattle.ppd_race.proofs.rows.busy_rows.Goals as goal
use Rattle.std.proofs.lemmas.Grind.{common_steps}

pub loop-process-init : goal.loop-process-init
loop-process-init g c = record {
  long = ap length c.new-rows.ensures;
  row = λ q lt. absurd (omega (arith, lt));
  size = (let none = ap (sum_by row_cost) c.new-rows.ensures in omega (arith, none));
  least = omega arith;
  spent = omega arith;
}

pub overflow_cast-process : goal.overflow_cast-process
overflow_cast-process g c = omega (arith, c.loop-process-test.true, c.requires.processes)

pub busy_row-requires : goal.busy_row-requires
busy_row-requires g c =
    subst (λ (own : List EdgeSets). length own < 2 ^ 32)
    (sym (c.as_slice.ensures ∙ c.index-sets-process.is ∙ get_or_any c.args.sets.now c.loop-process.process c.index-sets-process.result [] c.loop-process-test.true))
    (c.requires.edges c.loop-process.process)

pub loop-process-preserved : goal.loop-process-preserved
loop-process-preserved g c =
    let now = rows_more c.args.sets.now c.loop-process.process c.loop-process.rows c.push.new.self c.in_ok-row.row c.as_slice.result.now c.index-sets-process.result c.loop-process-test.true c.loop-process.invariant.long
    c.in_ok-push.ensures.ok c.in_ok-row.ensures.busy c.as_slice.ensures c.index-sets-process.is c.loop-process.invariant.row in
    let more = sum_by_more sets_cost c.args.sets.now c.loop-process.process c.index-sets-process.result c.loop-process-test.true in
    let same = ap sets_cost (c.as_slice.ensures ∙ c.index-sets-process.is) in
    let more_least = sum_by_more sets_least c.args.sets.now c.loop-process.process c.index-sets-process.result c.loop-process-test.true in
    let same_least = ap sets_least (c.as_slice.ensures ∙ c.index-sets-process.is) in
    let pushed = ap (sum_by row_cost) c.in_ok-push.ensures.ok ∙ sum_by_push row_cost c.loop-process.rows c.in_ok-row.row in
    record {
      long = now.0;
      row = now.1;
      size = omega (arith, more, same, pushed, c.in_ok-row.ensures.size, c.loop-process.invariant.size);
      least = omega (arith, more_least, same_least, c.tick.ensures, c.in_ok-row.ensures.least, c.loop-process.invariant.least);
      spent = omega (arith, more, same, c.tick.ensures, c.in_ok-row.ensures.cost, c.loop-process.invariant.spent);
    }

pub returns-clause-busy : goal.returns-clause-busy
returns-clause-busy g c =
    let all : c.loop-process.process ≡ length c.args.sets.now = omega (arith, c.loop-process-test.false, c.loop-process.auto.process-end) in
    record { processes = c.loop-process.invariant.long ∙ all; row = λ q lt. c.loop-process.invariant.row q (subst (λ n. q < n) c.loop-process.invariant.long lt) }

pub returns-clause-size : goal.returns-clause-size
returns-clause-size g c = let less = sum_by-take-le sets_cost c.args.sets.now c.loop-process.process in omega (arith, less, c.loop-process.invariant.size)

pub returns-clause-cost : goal.returns-clause-cost
returns-clause-cost g c = let less = sum_by-take-le sets_cost c.args.sets.now c.loop-process.process in omega (arith, less, c.loop-process.invariant.spent)

pub returns-clause-least : goal.returns-clause-least
returns-clause-least g c =
    let all = ap (sum_by sets_least) (take_all c.loop-process.process c.args.sets.now c.loop-process-test.false) in
    omega (arith, all, c.loop-process.invariant.least)

pub as_slice-requires : goal.as_slice-requires
as_slice-requires c = search rules depth 1 fits 30

pub bounds-sets-process : goal.bounds-sets-process
bounds-sets-process c = grind (arith, common_steps) steps 250000

pub loop-process-smaller : goal.loop-process-smaller
loop-process-smaller c = search rules depth 1 fits 30

pub new-rows-requires : goal.new-rows-requires
new-rows-requires c = search rules depth 1 fits 30

pub push-requires : goal.push-requires
push-requires c = search rules depth 1 fits 30

pub same-rows-in-loop-process : goal.same-rows-in-loop-process
same-rows-in-loop-process c = search rules depth 1 fits 30

pub tick-requires : goal.tick-requires
tick-requires c = search rules depth 1 fits 30

pub returns-in_err-push-clause-busy : goal.returns-in_err-push-clause-busy
returns-in_err-push-clause-busy c = grind (arith, common_steps) steps 250000

pub returns-in_err-push-clause-least : goal.returns-in_err-push-clause-least
returns-in_err-push-clause-least c = grind (arith, common_steps) steps 250000

pub returns-in_err-push-clause-size : goal.returns-in_err-push-clause-size
returns-in_err-push-clause-size c = grind (arith, common_steps) steps 250000

pub returns-in_err-row-clause-busy : goal.returns-in_err-row-clause-busy
returns-in_err-row-clause-busy c = grind (arith, common_steps) steps 250000

pub returns-in_err-row-clause-least : goal.returns-in_err-row-clause-least
returns-in_err-row-clause-least c = grind (arith, common_steps) steps 250000

pub returns-in_err-row-clause-size : goal.returns-in_err-row-clause-size
returns-in_err-row-clause-size c = grind (arith, common_steps) steps 250000
