use Rattle.ppd_flow_local.specs.Searches.{plan_in, program_in, seen}
use Rattle.ppd_flow_local.proofs.Controls.{control_is}
use Rattle.ppd_flow_local.proofs.search.Search.control_in.Goals as goal

pub returns : goal.returns
returns c =
    control_is (program_in c.args.self.now) (plan_in c.args.self.now) (seen c.args.self.now) c.args.self.now.process c.args.place.now.interval c.args.place.now.item c.args.stmt
    c.frame_in-frame.result c.args.place.now.items.now c.in_ok-leaf.leaf c.in_ok-run.run' c.in_ok-round.round c.leaf_call-call.result c.first_of.result c.first_of-2.result
    c.requires.place.items_are c.in_ok-leaf.ensures c.frame_in-frame.ensures c.in_ok-run.ensures c.in_ok-round.ensures c.leaf_call-call.ensures c.first_of.ensures c.first_of-2.ensures
