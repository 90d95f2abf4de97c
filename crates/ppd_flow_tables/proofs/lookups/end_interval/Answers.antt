use Rattle.std.specs.Prelude.{get_or, []}
use Rattle.std.proofs.Common.{sym}
use Rattle.ppd_flow_tables.proofs.Tabled.{edges_are}
use Rattle.ppd_flow_tables.proofs.lookups.end_interval.Goals as goal

pub returns-in-Some : goal.returns-in-Some
returns-in-Some c =
    let past = c.args.past.now in
    c.end_interval.ensures (get_or past.logs.now.lists c.args.edge.process [])
    (edges_are past c.args.tables.now c.args.edge.process c.in-Some.table.now c.requires.tables_are
    (sym c.in-Some.ensures))
