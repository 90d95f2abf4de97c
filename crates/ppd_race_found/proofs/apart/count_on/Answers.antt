use Rattle.std.proofs.Common.{◌+◌, ◌-◌, ◌/◌, arith, length}
use Rattle.ppd_race_found.specs.Search.{is_on}
use Rattle.ppd_race_found.proofs.Halves.{few_halves, first_halves, first_left, halved_cut, halved_down, halved_none, halved_up, last_left, next_halves, next_left}
use Rattle.ppd_race_found.proofs.apart.count_on.Goals as goal

pub loop-low-init : goal.loop-low-init
loop-low-init g c = record {
  order = omega arith;
  within = omega (arith, c.count_of-high.ensures.count);
  halved = halved_none (is_on c.args.graph.now c.args.side c.args.b) c.args.list.now c.count_of-high.result c.count_of-high.ensures.count;
  on = omega arith;
  spent = omega arith;
  some = first_left c.count_of-high.result (length c.args.list.now) c.args.steps.now c.count_of-high.ensures.count;
  halves = first_halves c.count_of-high.result (length c.args.list.now) c.args.steps.now c.count_of-high.ensures.count;
}

pub loop-low-preserved-then-is_on : goal.loop-low-preserved-then-is_on
loop-low-preserved-then-is_on g c =
    let low = c.loop-low.low in
    let high = c.loop-low.high in
    let test = is_on c.args.graph.now c.args.side c.args.b in
    let few = few_halves (high - low) (c.loop-low.steps - c.args.steps.now) (length c.args.list.now) (omega (arith, c.loop-low-test.true)) c.loop-low.invariant.halves c.count_of-high.ensures.fits in
    record {
      order = omega (arith, c.loop-low-test.true);
      within = c.loop-low.invariant.within;
      halved = halved_up test c.args.list.now low high (low + (high - low) / 2) _ c.is_on.result (omega (arith, c.loop-low-test.true, c.loop-low.invariant.within)) c.is_on.ensures c.if-is_on.true c.loop-low.invariant.halved;
      on = omega (arith, c.tick.ensures, c.loop-low.invariant.on);
      spent = omega (arith, c.tick.ensures, c.loop-low.invariant.on, few);
      some = next_left (high - low) (high - (low + (high - low) / 2 + 1)) c.args.steps.now c.loop-low.steps c.tick.new.self (length c.args.list.now) c.loop-low.invariant.on c.tick.ensures (omega (arith, c.loop-low-test.true)) c.loop-low.invariant.some;
      halves = next_halves (high - low) (high - (low + (high - low) / 2 + 1)) c.args.steps.now c.loop-low.steps c.tick.new.self (length c.args.list.now) c.loop-low.invariant.on c.tick.ensures (omega (arith, c.loop-low-test.true)) c.loop-low.invariant.halves;
    }

pub loop-low-preserved : goal.loop-low-preserved
loop-low-preserved g c =
    let low = c.loop-low.low in
    let high = c.loop-low.high in
    let test = is_on c.args.graph.now c.args.side c.args.b in
    let few = few_halves (high - low) (c.loop-low.steps - c.args.steps.now) (length c.args.list.now) (omega (arith, c.loop-low-test.true)) c.loop-low.invariant.halves c.count_of-high.ensures.fits in
    record {
      order = omega (arith, c.loop-low-test.true);
      within = omega (arith, c.loop-low-test.true, c.loop-low.invariant.within);
      halved = halved_down test c.args.list.now low high (low + (high - low) / 2) _ c.is_on.result (omega (arith, c.loop-low-test.true, c.loop-low.invariant.within)) c.is_on.ensures c.if-is_on.false c.loop-low.invariant.halved;
      on = omega (arith, c.tick.ensures, c.loop-low.invariant.on);
      spent = omega (arith, c.tick.ensures, c.loop-low.invariant.on, few);
      some = next_left (high - low) (low + (high - low) / 2 - low) c.args.steps.now c.loop-low.steps c.tick.new.self (length c.args.list.now) c.loop-low.invariant.on c.tick.ensures (omega (arith, c.loop-low-test.true)) c.loop-low.invariant.some;
      halves = next_halves (high - low) (low + (high - low) / 2 - low) c.args.steps.now c.loop-low.steps c.tick.new.self (length c.args.list.now) c.loop-low.invariant.on c.tick.ensures (omega (arith, c.loop-low-test.true)) c.loop-low.invariant.halves;
    }

pub returns-clause-cut : goal.returns-clause-cut
returns-clause-cut g c = halved_cut (is_on c.args.graph.now c.args.side c.args.b) c.args.list.now c.loop-low.low c.loop-low.high c.loop-low-test.false c.loop-low.invariant.halved

pub returns-clause-least : goal.returns-clause-least
returns-clause-least g c =
    last_left (c.loop-low.high - c.loop-low.low) (c.loop-low.steps - c.args.steps.now) (length c.args.list.now) (omega (arith, c.loop-low-test.false)) c.loop-low.invariant.some
