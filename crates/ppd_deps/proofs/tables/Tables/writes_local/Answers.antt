use Rattle.std.specs.Prelude.{false}
use Rattle.ppd_sets.specs.Used.{writes_at}
use Rattle.ppd_deps.specs.Named.{own_vars}
use Rattle.std.proofs.Common.{◌∙◌, ap, length}
use Rattle.ppd_ast.specs.Members.{has}
use Rattle.ppd_deps.proofs.Tabled.{table_at, table_long}
use Rattle.ppd_deps.proofs.tables.Tables.writes_local.Goals as goal

pub bounds-as_slice-stmt : goal.bounds-as_slice-stmt
bounds-as_slice-stmt c = table_long (own_vars c.args.program.now (writes_at false c.args.program.now)) c.as_slice.result.now (length c.args.program.now.stmts) c.args.stmt (c.as_slice.ensures ∙ c.requires.tables.written) c.requires.there

pub returns : goal.returns
returns c =
    c.contains.ensures.value
    ∙ ap (λ l. has l c.args.var)
    (c.as_slice-2.ensures ∙ table_at (own_vars c.args.program.now (writes_at false c.args.program.now)) c.as_slice.result.now (length c.args.program.now.stmts) c.args.stmt c.index-as_slice-stmt.result (c.as_slice.ensures ∙ c.requires.tables.written) c.requires.there c.index-as_slice-stmt.is)
