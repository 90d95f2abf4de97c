use Rattle.std.proofs.Common.{Option, Some, subst, sym}
use Rattle.ppd_flow.specs.Answers.{BlockTables}
use Rattle.ppd_session.specs.LastTables.{AreOfLast}
use Rattle.ppd_session.proofs.LastTables.{asked}
use Rattle.ppd_session.proofs.last_tables.LastTables.ask.Goals as goal

pub returns : goal.returns
returns c =
    subst (λ (tables : Option BlockTables). AreOfLast c.args.past.now (record { place = Some c.args.place; tables = tables }))
    (sym c.replace.ensures.after) (asked c.args.past.now c.args.place c.made-tables.result c.made-tables.ensures)
