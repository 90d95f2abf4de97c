use Rattle.std.proofs.Common.{None, Some}
use Rattle.ppd_flow_tables.proofs.EdgePlaces.{place_found}
use Rattle.ppd_flow_tables.proofs.place_table.PlaceTable.place_of.Goals as goal

pub returns-in-Some : goal.returns-in-Some
returns-in-Some c = λ entries k items h.
    place_found entries k items c.args.self.now h c.args.interval (Some c.in-Some.place) c.in-Some.ensures

pub returns-in-None : goal.returns-in-None
returns-in-None c = λ entries k items h.
    place_found entries k items c.args.self.now h c.args.interval None c.in-None.ensures
