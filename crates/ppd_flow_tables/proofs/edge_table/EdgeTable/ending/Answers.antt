use Rattle.std.proofs.Common.{None, Some}
use Rattle.ppd_flow_tables.proofs.EdgePlaces.{ending_found}
use Rattle.ppd_flow_tables.proofs.edge_table.EdgeTable.ending.Goals as goal

pub returns-in-Some : goal.returns-in-Some
returns-in-Some c = λ entries h. ending_found entries c.args.self.now h c.args.edge (Some c.in-Some.entry)
    c.in-Some.ensures

pub returns-in-None : goal.returns-in-None
returns-in-None c = λ entries h. ending_found entries c.args.self.now h c.args.edge None c.in-None.ensures
