use Rattle.std.specs.Prelude.{get_or, []}
use Rattle.ppd_flow_tables.proofs.Tabled.{places_at}
use Rattle.ppd_flow_tables.proofs.lookups.edge_at.Goals as goal

pub returns-in-Some : goal.returns-in-Some
returns-in-Some c =
    let past = c.args.past.now in
    c.edge_at.ensures (get_or past.logs.now.lists c.args.process []) c.args.interval c.args.items.now
    (places_at past c.args.tables.now c.args.process c.args.interval c.in-Some.tables.now c.args.items.now
    c.requires.tabled.tables_are c.in-Some.ensures c.requires.items)
