use Rattle.std.proofs.Common.{rules, ◌≤◌, length, sym, arith}
use Rattle.std.proofs.lemmas.Grind.{common_steps}
use Rattle.ppd_world.proofs.objects.give.Goals as goal
use Rattle.ppd_model.proofs.Lists.{change_past, set_is_change}
use Rattle.ppd_world.specs.Parts.{one_given}

pub returns-in_default : goal.returns-in_default
returns-in_default c =
    let past : length c.args.sems.now.items ≤ c.args.sem = search rules in
    sym (change_past one_given c.args.sem c.args.sems.now.items past)

pub returns-in-Some : goal.returns-in-Some
returns-in-Some c = grind (arith, common_steps, set_is_change)
