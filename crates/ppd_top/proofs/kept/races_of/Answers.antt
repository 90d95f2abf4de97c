use Rattle.ppd_race.specs.Races.{most_cells}
use Rattle.ppd_top.proofs.kept.races_of.Goals as goal

pub returns-clause-races : goal.returns-clause-races
unfolding most_cells
returns-clause-races g c =
    c.in_ok-found.ensures c.args.recalled.now.recording.program c.args.recalled.now.recording.logs c.requires.graph_is c.requires.program_ok.limits.starts c.requires.cells
