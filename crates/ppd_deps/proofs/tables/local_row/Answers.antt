use Rattle.std.proofs.Common.{◌∙◌, ap, false, subst, sym}
use Rattle.ppd_ast.specs.Lookups.{body_of, body_numbered}
use Rattle.ppd_sets.specs.Used.{AreSmall, reads_at, vars_met}
use Rattle.ppd_deps.proofs.Naming.{locals_small, met_as}
use Rattle.ppd_deps.proofs.tables.local_row.Goals as goal

pub vars_in-requires : goal.vars_in-requires
vars_in-requires c = subst AreSmall (sym c.locals.ensures) (locals_small c.args.program.now c.body_at.result c.requires)

pub returns : goal.returns
returns c =
    let p = c.args.program.now in
    let s = c.args.stmt in
    met_as (body_numbered p (body_of p s)).locals c.read_cells-cells.result (reads_at false p s) c.in_ok-ids.ids (locals_small p (body_of p s) c.requires) c.read_cells-cells.ensures
    (c.in_ok-ids.ensures ∙ ap (λ vars. vars_met vars c.read_cells-cells.result) (c.locals.ensures ∙ ap (λ i. (body_numbered p i).locals) c.body_at.ensures))
