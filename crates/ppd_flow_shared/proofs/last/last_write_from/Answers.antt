use Rattle.ppd_flow_shared.proofs.LastFound.{found_from}
use Rattle.ppd_flow_shared.proofs.last.last_write_from.Goals as goal

pub returns : goal.returns
returns g c =
    found_from c.args.past.now c.args.cell c.args.last c.args.given.items.now c.in_ok-place.place c.args.steps.now
    c.written_before.new.steps c.written_before.result c.requires.items.last c.requires.items.replayed c.in_ok-place.ensures
    c.written_before.ensures
