use Rattle.std.proofs.Common.{rules, ◌≤◌, length, sym, arith}
use Rattle.std.proofs.lemmas.Grind.{common_steps}
use Rattle.ppd_world.proofs.objects.push_value.Goals as goal
use Rattle.ppd_model.proofs.Lists.{change_past, set_is_change}
use Rattle.ppd_world.specs.Parts.{with_value}

pub returns-in-None-clause-ok : goal.returns-in-None-clause-ok
returns-in-None-clause-ok c =
    let past : length c.args.chans.now.items ≤ c.args.chan = search rules in
    sym (change_past (with_value c.args.value) c.args.chan c.args.chans.now.items past)

pub returns-in-Some-clause-ok : goal.returns-in-Some-clause-ok
returns-in-Some-clause-ok c = grind (arith, common_steps, set_is_change)
