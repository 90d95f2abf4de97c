use Rattle.std.proofs.Common.{rules, ◌≤◌, length, sym, arith}
use Rattle.std.proofs.lemmas.Grind.{common_steps}
use Rattle.ppd_world.proofs.objects.receive.Goals as goal
use Rattle.ppd_model.proofs.Lists.{change_past, set_is_change}
use Rattle.ppd_world.specs.Parts.{one_received}

pub returns-in_default : goal.returns-in_default
returns-in_default c =
    let past : length c.args.chans.now.items ≤ c.args.chan = search rules in
    sym (change_past one_received c.args.chan c.args.chans.now.items past)

pub returns-in-Some : goal.returns-in-Some
returns-in-Some c = grind (arith, common_steps, set_is_change)
