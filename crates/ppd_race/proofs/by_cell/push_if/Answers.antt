use Rattle.std.proofs.Common.{rules, ◌≡◌, false, ap}
use Rattle.ppd_race.specs.ByCell.{listed_if}
use Rattle.ppd_race_found.proofs.Grown.{grown_none}
use Rattle.ppd_race.proofs.by_cell.push_if.Goals as goal

pub returns-clause-listed : goal.returns-clause-listed
returns-clause-listed g c =
    let no : c.args.holds ≡ false = search rules in
    grown_none (listed_if c.args.holds c.args.cell c.args.one) c.args.lists.now.items (λ m lt. ap (λ b. listed_if b c.args.cell c.args.one m) no)
