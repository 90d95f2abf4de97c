use Rattle.std.specs.Prelude.{get_or, []}
use Rattle.std.proofs.Common.{◌∙◌}
use Rattle.ppd_flow_tables.specs.Stops.{after}
use Rattle.ppd_flow_tables.proofs.Passing.{none_passed}
use Rattle.ppd_flow_tables.proofs.Tabled.{places_at}
use Rattle.ppd_flow_tables.proofs.lookups.stop_before.Goals as goal

pub returns-in-Some : goal.returns-in-Some
returns-in-Some c = λ past all is.
    c.stop_before.ensures (get_or past.logs.now.lists c.args.process []) c.args.interval c.args.items.now
    (places_at past c.args.tables.now c.args.process c.args.interval c.in-Some.tables.now c.args.items.now all
    c.in-Some.ensures is)

pub returns-in-None : goal.returns-in-None
returns-in-None c = λ past all is.
    none_passed c.args.cell c.args.items.now (after c.last_before.result) c.args.place
    (c.last_before.ensures ∙ c.min.ensures)
