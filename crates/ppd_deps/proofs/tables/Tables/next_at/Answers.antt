use Rattle.std.proofs.Common.{◌∙◌, length}
use Rattle.ppd_sets.specs.Flow.{next_of}
use Rattle.ppd_deps.proofs.Tabled.{table_at, table_long}
use Rattle.ppd_deps.proofs.tables.Tables.next_at.Goals as goal

pub bounds-as_slice-stmt : goal.bounds-as_slice-stmt
bounds-as_slice-stmt c = table_long (next_of c.args.program.now) c.as_slice.result.now (length c.args.program.now.stmts) c.args.stmt (c.as_slice.ensures ∙ c.requires.tables.next) c.requires.there

pub returns : goal.returns
returns c =
    c.as_slice-2.ensures ∙ table_at (next_of c.args.program.now) c.as_slice.result.now (length c.args.program.now.stmts) c.args.stmt c.index-as_slice-stmt.result (c.as_slice.ensures ∙ c.requires.tables.next) c.requires.there c.index-as_slice-stmt.is
