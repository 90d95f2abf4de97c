use Rattle.std.specs.Prelude.{get_or, []}
use Rattle.ppd_flow_tables.proofs.Tabled.{places_at}
use Rattle.ppd_flow_tables.proofs.lookups.place_of.Goals as goal

pub returns-in-Some : goal.returns-in-Some
returns-in-Some c = λ past all is.
    c.place_of.ensures (get_or past.logs.now.lists c.args.process []) c.args.interval c.args.items.now
    (places_at past c.args.tables.now c.args.process c.args.interval c.in-Some.tables.now c.args.items.now all
    c.in-Some.ensures is)
