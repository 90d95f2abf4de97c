use Rattle.std.proofs.Common.{◌+◌, ◌-◌, ◌/◌, arith, length, refl}
use Rattle.ppd_race_found.proofs.Halves.{few_halves, first_halves, next_halves}
use Rattle.ppd_flow_tables.proofs.Cut.{halved_cut, halved_down, halved_none, halved_up}
use Rattle.ppd_flow_tables.proofs.halves.count_below.Goals as goal

pub loop-low-init : goal.loop-low-init
loop-low-init g c = record {
  order = omega arith;
  within = omega (arith, c.count_of-high.ensures.count);
  halved = halved_none c.args.limit c.args.numbers.now c.count_of-high.result c.count_of-high.ensures.count;
  on = omega arith;
  spent = omega arith;
  halves = first_halves c.count_of-high.result (length c.args.numbers.now) c.args.steps.now c.count_of-high.ensures.count;
}

pub loop-low-preserved-then-numbers-middle : goal.loop-low-preserved-then-numbers-middle
loop-low-preserved-then-numbers-middle g c =
    let low = c.loop-low.low in
    let high = c.loop-low.high in
    let numbers = c.args.numbers.now in
    let few = few_halves (high - low) (c.loop-low.steps - c.args.steps.now) (length numbers) (omega (arith, c.loop-low-test.true)) c.loop-low.invariant.halves c.count_of-high.ensures.fits in
    record {
      order = omega (arith, c.loop-low-test.true);
      within = c.loop-low.invariant.within;
      halved = halved_up c.args.limit numbers c.requires low high (low + (high - low) / 2) _ 0 (omega (arith, c.loop-low-test.true, c.loop-low.invariant.within)) refl c.if-numbers-middle.true c.loop-low.invariant.halved;
      on = omega (arith, c.tick.ensures, c.loop-low.invariant.on);
      spent = omega (arith, c.tick.ensures, c.loop-low.invariant.on, few);
      halves = next_halves (high - low) (high - (low + (high - low) / 2 + 1)) c.args.steps.now c.loop-low.steps c.tick.new.self (length numbers) c.loop-low.invariant.on c.tick.ensures (omega (arith, c.loop-low-test.true)) c.loop-low.invariant.halves;
    }

pub loop-low-preserved : goal.loop-low-preserved
loop-low-preserved g c =
    let low = c.loop-low.low in
    let high = c.loop-low.high in
    let numbers = c.args.numbers.now in
    let few = few_halves (high - low) (c.loop-low.steps - c.args.steps.now) (length numbers) (omega (arith, c.loop-low-test.true)) c.loop-low.invariant.halves c.count_of-high.ensures.fits in
    record {
      order = omega (arith, c.loop-low-test.true);
      within = omega (arith, c.loop-low-test.true, c.loop-low.invariant.within);
      halved = halved_down c.args.limit numbers c.requires low high (low + (high - low) / 2) _ 0 (omega (arith, c.loop-low-test.true, c.loop-low.invariant.within)) refl c.if-numbers-middle.false c.loop-low.invariant.halved;
      on = omega (arith, c.tick.ensures, c.loop-low.invariant.on);
      spent = omega (arith, c.tick.ensures, c.loop-low.invariant.on, few);
      halves = next_halves (high - low) (low + (high - low) / 2 - low) c.args.steps.now c.loop-low.steps c.tick.new.self (length numbers) c.loop-low.invariant.on c.tick.ensures (omega (arith, c.loop-low-test.true)) c.loop-low.invariant.halves;
    }

pub returns-clause-cut : goal.returns-clause-cut
returns-clause-cut g c = halved_cut c.args.limit c.args.numbers.now c.loop-low.low c.loop-low.high c.loop-low-test.false (omega (arith, c.loop-low.invariant.order, c.loop-low.invariant.within)) c.loop-low.invariant.halved
