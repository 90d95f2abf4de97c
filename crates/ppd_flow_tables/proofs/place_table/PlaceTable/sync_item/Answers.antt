use Rattle.std.proofs.Common.{None, Some}
use Rattle.ppd_flow_tables.proofs.EdgePlaces.{sync_found}
use Rattle.ppd_flow_tables.proofs.place_table.PlaceTable.sync_item.Goals as goal

pub returns-in-Some : goal.returns-in-Some
returns-in-Some c = λ entries k items h.
    sync_found entries k items c.args.self.now h c.args.edge (Some c.in-Some.place) c.in-Some.ensures

pub returns-in-None : goal.returns-in-None
returns-in-None c = λ entries k items h. sync_found entries k items c.args.self.now h c.args.edge None c.in-None.ensures
