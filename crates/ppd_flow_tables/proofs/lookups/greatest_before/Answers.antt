use Rattle.std.proofs.Common.{sym}
use Rattle.ppd_flow_tables.proofs.Tabled.{writing_is}
use Rattle.ppd_flow_tables.proofs.lookups.greatest_before.Goals as goal

pub greatest_uncounted-requires-clause-edges : goal.greatest_uncounted-requires-clause-edges
greatest_uncounted-requires-clause-edges c =
    writing_is c.args.past.now c.args.tables.now c.in-Some.writing.now c.requires.tables_are (sym c.in-Some.ensures)
