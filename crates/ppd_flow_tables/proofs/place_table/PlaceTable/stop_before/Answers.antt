use Rattle.ppd_flow_tables.proofs.Passed.{stop_found}
use Rattle.ppd_flow_tables.proofs.place_table.PlaceTable.stop_before.Goals as goal

pub returns : goal.returns
returns c = λ entries k items h.
    stop_found entries k items c.args.self.now h c.args.cell c.args.place c.small-most.result c.last_under-border.result
    c.last_under-write.result c.later.result
    c.small-most.ensures.most c.small-most.ensures.is c.last_under-border.ensures c.last_under-write.ensures
    c.later.ensures
