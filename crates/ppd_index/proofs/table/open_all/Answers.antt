use Rattle.std.proofs.Common.{arith, rules}
use Rattle.std.proofs.lemmas.Grind.{common_steps}
use Rattle.ppd_index.proofs.Lists.{open_next, open_past}
use Rattle.ppd_index.proofs.table.open_all.Goals as goal
use Rattle.ppd_index.proofs.table.open_all.Goals.{in-Some+in_ok-open_one, in_default}

pub loop-place-preserved : goal.loop-place-preserved
loop-place-preserved g c = record {
  rows = elim c.match-item_at.branch [
    | in-Some+in_ok-open_one w ↦ grind (arith, common_steps, open_next)
    | in_default w ↦ grind (arith, common_steps, open_past)
  ];
  spent = omega (arith, c.tick.ensures, c.loop-place.invariant.spent);
}

pub item_at-requires : goal.item_at-requires
item_at-requires c = search rules depth 1 fits 30

pub item_at-requires-in-Some : goal.item_at-requires-in-Some
item_at-requires-in-Some c = search rules depth 1 fits 30

pub len-place-end-requires : goal.len-place-end-requires
len-place-end-requires c = search rules depth 1 fits 30

pub loop-place-init : goal.loop-place-init
loop-place-init c = search rules depth 1 fits 30

pub loop-place-smaller : goal.loop-place-smaller
loop-place-smaller c = search rules depth 1 fits 30

pub open_one-requires : goal.open_one-requires
open_one-requires c = search rules depth 1 fits 30

pub returns : goal.returns
returns c = grind (arith, common_steps) steps 250000

pub tick-requires : goal.tick-requires
tick-requires c = search rules depth 1 fits 30

pub returns-in_err-open_one-clause-cost : goal.returns-in_err-open_one-clause-cost
returns-in_err-open_one-clause-cost c = search rules depth 1 fits 30
