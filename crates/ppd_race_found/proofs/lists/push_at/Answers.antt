use Rattle.std.proofs.Common.{rules, ◌≡◌, ◌≤◌, ◌<◌, ◌+◌, ◌∙◌, ap, subst, sym, length, arith}
use Rattle.ppd_race_found.specs.Lists.{GrowsBy, one_at, total}
use Rattle.ppd_race_found.proofs.Grown.{one_nowhere, one_there, total_more}
use Rattle.ppd_race_found.proofs.lists.push_at.Goals as goal

pub returns-then-place-len-clause-grows : goal.returns-then-place-len-clause-grows
returns-then-place-len-clause-grows g c =
    let past : length c.args.lists.now.items ≤ c.args.place = search rules in
    one_nowhere c.args.lists.now.items c.args.place c.args.item past

pub returns-clause-grows : goal.returns-clause-grows
returns-clause-grows g c =
    let there : c.args.place < length c.args.lists.now.items = search rules in
    subst (GrowsBy (one_at c.args.place c.args.item) c.args.lists.now.items) (sym c.in_ok-push_in.ensures) (one_there c.args.lists.now.items c.args.place c.args.item there)

pub returns-clause-spent : goal.returns-clause-spent
returns-clause-spent g c =
    let there : c.args.place < length c.args.lists.now.items = search rules in
    let more = total_more c.args.lists.now.items c.args.place c.args.item there in
    let same : total c.push_in.new.lists.items ≡ total c.args.lists.now.items + 1 = ap total c.in_ok-push_in.ensures ∙ more in
    omega (arith, c.tick.ensures, same)
