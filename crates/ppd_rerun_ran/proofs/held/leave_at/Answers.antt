use Rattle.std.proofs.Common.{rules, ◌≤◌, length, sym, arith}
use Rattle.std.proofs.lemmas.Grind.{common_steps}
use Rattle.ppd_model.proofs.Lists.{change_past, set_is_change}
use Rattle.ppd_rerun_ran.specs.Holding.{left_with}
use Rattle.ppd_rerun_ran.proofs.held.leave_at.Goals as goal

pub returns-then-place-len : goal.returns-then-place-len
returns-then-place-len c = grind (arith, common_steps, set_is_change)

pub returns-else-place-len : goal.returns-else-place-len
returns-else-place-len c =
    let past : length c.args.spans.now.items ≤ c.args.place = search rules in
    sym (change_past (left_with c.args.values) c.args.place c.args.spans.now.items past)
