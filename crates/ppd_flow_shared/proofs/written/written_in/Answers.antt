use Rattle.ppd_flow_shared.proofs.SharedFound.{written_from_end}
use Rattle.ppd_flow_shared.proofs.written.written_in.Goals as goal

pub returns : goal.returns
returns g c =
    let search = c.args.search.now in
    written_from_end search.past.now c.args.edge search.cell c.in_ok-end.end c.args.steps.now c.edge_end.new.steps
    c.written_before.new.steps c.written_before.result c.in_ok-end.ensures c.written_before.ensures
