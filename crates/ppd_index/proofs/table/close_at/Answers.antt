use Rattle.std.proofs.Common.{rules, ◌≤◌, length, sym, arith}
use Rattle.std.proofs.lemmas.Grind.{common_steps}
use Rattle.ppd_index.specs.Tables.{closed_by}
use Rattle.ppd_index.proofs.table.close_at.Goals as goal
use Rattle.ppd_model.proofs.Lists.{change_past, set_is_change}

pub returns-then-place-len : goal.returns-then-place-len
returns-then-place-len c =
    let past : length c.args.rows.now.items ≤ c.args.place = search rules in
    sym (change_past (closed_by c.args.last) c.args.place c.args.rows.now.items past)

pub returns : goal.returns
returns c = grind (arith, common_steps, set_is_change)
