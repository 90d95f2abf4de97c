use Rattle.std.proofs.Common.{◌≡◌, ap, arith, length, subst, rules}
use Rattle.std.proofs.lemmas.List.Sums.{sum_by-take-le, sum_by_more}
use Rattle.ppd_race.specs.Busy.{IsBusyPart}
use Rattle.ppd_race.specs.Spending.{set_cost}
use Rattle.ppd_race.proofs.BusyRows.{part_more}
use Rattle.ppd_race.proofs.rows.busy_row.Goals as goal
use Rattle.std.proofs.lemmas.Grind.{common_steps}

pub loop-edge-preserved : goal.loop-edge-preserved
loop-edge-preserved g c =
    let more = sum_by_more set_cost c.args.own.now c.loop-edge.edge c.index-own-edge.result c.loop-edge-test.true in
    let same = ap set_cost c.index-own-edge.is in
    record {
      part = part_more c.args.process c.loop-edge.edge c.args.own.now c.loop-edge.row c.take_edge.new.row c.index-own-edge.result c.loop-edge-test.true c.index-own-edge.is c.in_ok-take_edge.ensures.takes c.loop-edge.invariant.part;
      size = omega (arith, more, same, c.in_ok-take_edge.ensures.size, c.loop-edge.invariant.size);
      least = omega (arith, c.tick.ensures, c.in_ok-take_edge.ensures.on, c.loop-edge.invariant.least);
      spent = omega (arith, more, same, c.tick.ensures, c.in_ok-take_edge.ensures.cost, c.loop-edge.invariant.spent);
    }

pub returns-clause-busy : goal.returns-clause-busy
returns-clause-busy g c =
    let all : c.loop-edge.edge ≡ length c.args.own.now = omega (arith, c.loop-edge-test.false, c.loop-edge.auto.edge-end) in
    subst (λ n. IsBusyPart c.args.process c.args.own.now n c.loop-edge.row) all c.loop-edge.invariant.part

pub returns-clause-size : goal.returns-clause-size
returns-clause-size g c = let less = sum_by-take-le set_cost c.args.own.now c.loop-edge.edge in omega (arith, less, c.loop-edge.invariant.size)

pub returns-clause-cost : goal.returns-clause-cost
returns-clause-cost g c = let less = sum_by-take-le set_cost c.args.own.now c.loop-edge.edge in omega (arith, less, c.loop-edge.invariant.spent)

pub returns-clause-least : goal.returns-clause-least
returns-clause-least g c = omega (arith, c.loop-edge-test.false, c.loop-edge.invariant.least)

pub bounds-own-edge : goal.bounds-own-edge
bounds-own-edge c = grind (arith, common_steps) steps 250000

pub loop-edge-init : goal.loop-edge-init
loop-edge-init c = search rules depth 1 fits 30

pub loop-edge-smaller : goal.loop-edge-smaller
loop-edge-smaller c = search rules depth 1 fits 30

pub new-row-requires : goal.new-row-requires
new-row-requires c = search rules depth 1 fits 30

pub take_edge-requires : goal.take_edge-requires
take_edge-requires c = search rules depth 1 fits 30

pub tick-requires : goal.tick-requires
tick-requires c = search rules depth 1 fits 30

pub returns-in_err-take_edge-clause-least : goal.returns-in_err-take_edge-clause-least
returns-in_err-take_edge-clause-least c = grind (arith, common_steps) steps 250000
