use Rattle.std.proofs.Common.{rules, ◌≡◌, false, ap}
use Rattle.ppd_race_found.specs.Search.{found_if}
use Rattle.ppd_race_found.proofs.Grown.{grown_none}
use Rattle.ppd_race_found.proofs.found.add_if.Goals as goal

pub returns-clause-grows : goal.returns-clause-grows
returns-clause-grows g c = λ rising p order elsewhere.
    let no : c.args.holds ≡ false = search rules in
    grown_none (found_if c.args.holds c.args.graph.now c.args.list.now c.args.against) c.args.found.now.items (λ m lt. ap (λ b. found_if b c.args.graph.now c.args.list.now c.args.against m) no)
