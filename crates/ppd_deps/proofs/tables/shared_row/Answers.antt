use Rattle.std.proofs.Common.{◌∙◌, List, sym, ap, subst, arith}
use Rattle.std.specs.Prelude.{slice_get, get_or, []}
use Rattle.std.specs.List.{filter}
use Rattle.ppd_ast.specs.declared.program.Var.{Var}
use Rattle.ppd_sets.specs.Used.{AreSmall, is_met}
use Rattle.ppd_sets.proofs.Meeting.{shared_small}
use Rattle.ppd_deps.proofs.Bodies.{reads_of_used, used_long, used_row}
use Rattle.ppd_deps.proofs.tables.shared_row.Goals as goal

pub used-used-requires : goal.used-used-requires
used-used-requires c = omega (arith, c.body_at.ensures, used_long c.args.program.now c.args.sets.now c.args.stmt c.requires.valid c.requires.sets c.requires.there)

pub vars_of-requires : goal.vars_of-requires
vars_of-requires c = subst AreSmall (sym c.as_slice.ensures) (shared_small c.args.program.now c.requires.valid)

pub returns : goal.returns
returns c =
    let p = c.args.program.now in
    let s = c.args.stmt in
    reads_of_used p s c.read_cells-cells.result c.used-used.result.now c.in_ok-ids.ids c.requires.valid c.requires.there c.read_cells-cells.ensures
    (c.used-used.ensures ∙ ap (λ b. get_or c.args.sets.now.used b []) c.body_at.ensures ∙ used_row p c.args.sets.now s c.requires.valid c.requires.sets c.requires.there)
    (c.in_ok-ids.ensures ∙ ap (λ (vars : List Var). filter (λ v. is_met c.read_cells-cells.result (slice_get vars v)) c.used-used.result.now) c.as_slice.ensures)
