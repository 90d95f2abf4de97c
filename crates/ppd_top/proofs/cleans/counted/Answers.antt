use Rattle.ppd_top.proofs.CleanTold.{found_as, ordered, races_are}
use Rattle.ppd_top.proofs.cleans.counted.Goals as goal

pub clean_edges-requires-clause-races : goal.clean_edges-requires-clause-races
clean_edges-requires-clause-races g c =
    races_are c.args.recalled.now.recording c.past_of.result c.past_of.ensures.program c.past_of.ensures.plan c.past_of.ensures.logs c.past_of.ensures.budget c.args.races.now c.requires.races

pub returns : goal.returns
returns g c =
    found_as c.args.recalled.now.recording c.past_of.result c.past_of.ensures.program c.past_of.ensures.plan c.past_of.ensures.logs c.past_of.ensures.budget c.args.races.now c.requires.races
    c.args.wanted.process c.args.wanted.interval c.args.wanted.item c.clean_edges.result
    (c.clean_edges.ensures.found (ordered c.args.recalled.now.recording c.past_of.result c.past_of.ensures.program c.past_of.ensures.plan c.past_of.ensures.logs c.past_of.ensures.budget c.requires.recording.ordered))
