use Rattle.std.proofs.Common.{rules, arith}
use Rattle.std.proofs.lemmas.Grind.{common_steps}
use Rattle.ppd_race.proofs.union.union_of.Goals as goal

pub as_slice-read-requires : goal.as_slice-read-requires
as_slice-read-requires c = search rules depth 1 fits 30

pub as_slice-written-requires : goal.as_slice-written-requires
as_slice-written-requires c = search rules depth 1 fits 30

pub do_rise-requires : goal.do_rise-requires
do_rise-requires c = search rules depth 1 fits 30

pub do_rise-requires-then-do_rise : goal.do_rise-requires-then-do_rise
do_rise-requires-then-do_rise c = search rules depth 1 fits 30

pub merged-requires : goal.merged-requires
merged-requires c = search rules depth 1 fits 30

pub returns : goal.returns
returns c = grind (arith, common_steps) steps 250000

pub returns-then-do_rise-2 : goal.returns-then-do_rise-2
returns-then-do_rise-2 c = grind (arith, common_steps) steps 250000

pub walked-requires : goal.walked-requires
walked-requires c = search rules depth 1 fits 30
