use Rattle.ppd_race_found.proofs.Halves.{window_is}
use Rattle.ppd_race_found.proofs.apart.window.Goals as goal

pub returns-clause-apart : goal.returns-clause-apart
returns-clause-apart g c = λ rising p order elsewhere.
    window_is c.args.graph.now p c.args.list.now c.args.b rising order elsewhere c.count_on-from.result c.count_on-to.result c.min-begin.result c.count_on-from.ensures.cut c.count_on-to.ensures.cut c.min-begin.ensures
