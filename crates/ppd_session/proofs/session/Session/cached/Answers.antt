use Rattle.std.proofs.Common.{ap₂}
use Rattle.ppd_race.specs.Races.{most_cells}
use Rattle.ppd_session.specs.Sessions.{state_of}
use Rattle.ppd_session.proofs.session.Session.cached.Goals as goal

pub returns : goal.returns
unfolding most_cells
returns g c =
    let past = c.args.past in
    ap₂ (state_of past)
    (c.in_ok-races.ensures past.program.now past.logs.now c.requires.past.graph_is c.requires.past.program_ok.limits.starts
    c.requires.past.cells) c.in_ok-kept.ensures
