use Rattle.std.proofs.lemmas.Grind.{common_steps}
use Rattle.ppd_slice.proofs.Keeping.{costs_all, from_none}
use Rattle.std.proofs.Common.{[], ◌∷◌, rules, arith}
use Rattle.ppd_slice.proofs.slicing.slice_found.Goals as goal

pub slice_from-requires-clause-own : goal.slice_from-requires-clause-own
slice_from-requires-clause-own g c =
    from_none (c.args.process ∷ []) c.in_ok-kept.kept.replays c.keep_first.new.kept.replays c.in_ok-kept.ensures.none c.keep_first.ensures.only

pub returns-clause-cost : goal.returns-clause-cost
returns-clause-cost g c =
    costs_all c.args.past.now c.in_ok-kept.kept.replays c.keep_first.new.kept.replays c.slice_from.new.kept.replays c.args.steps.now c.keep_first.new.steps
    c.slice_from.new.steps c.slice_from.result c.in_ok-keep_first.ensures.cost c.slice_from.ensures.cost c.slice_from.ensures.among

pub keep_first-requires-clause-kept : goal.keep_first-requires-clause-kept
keep_first-requires-clause-kept c = search rules depth 1 fits 30

pub keep_first-requires-clause-past : goal.keep_first-requires-clause-past
keep_first-requires-clause-past c = search rules depth 1 fits 30

pub new-requires : goal.new-requires
new-requires c = search rules depth 1 fits 30

pub returns-clause-is : goal.returns-clause-is
returns-clause-is c = grind (arith, common_steps) steps 250000

pub returns-in_err-keep_first : goal.returns-in_err-keep_first
returns-in_err-keep_first c = grind (arith, common_steps) steps 250000

pub returns-in_err-kept : goal.returns-in_err-kept
returns-in_err-kept c = grind (arith, common_steps) steps 250000
