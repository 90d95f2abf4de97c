use Rattle.std.specs.Prelude.{get_or, []}
use Rattle.ppd_flow_tables.proofs.Tabled.{places_at}
use Rattle.ppd_flow_tables.proofs.lookups.sync_item.Goals as goal

pub returns-in-Some : goal.returns-in-Some
returns-in-Some c =
    let past = c.args.past.now in
    let p = c.args.edge.process in
    c.sync_item.ensures (get_or past.logs.now.lists p []) c.args.interval c.args.items.now
    (places_at past c.args.tables.now p c.args.interval c.in-Some.tables.now c.args.items.now
    c.requires.tabled.tables_are c.in-Some.ensures c.requires.items)
