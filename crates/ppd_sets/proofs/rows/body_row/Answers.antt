use Rattle.std.proofs.Common.{◌∙◌, List, ap, sym, subst}
use Rattle.ppd_ast.specs.declared.program.Var.{Var}
use Rattle.ppd_sets.specs.Used.{AreSmall, vars_met}
use Rattle.ppd_sets.proofs.Meeting.{shared_small, used_is, defined_is}
use Rattle.ppd_sets.proofs.rows.body_row.Goals as goal

pub vars_in-requires : goal.vars_in-requires
vars_in-requires c = subst AreSmall (sym c.as_slice.ensures) (shared_small c.args.program.now c.requires.valid)

pub vars_in-requires-2 : goal.vars_in-requires-2
vars_in-requires-2 c = subst AreSmall (sym c.as_slice-2.ensures) (shared_small c.args.program.now c.requires.valid)

pub returns-clause-used : goal.returns-clause-used
returns-clause-used c =
    let set = c.in_ok-touched.touched.reads in
    used_is c.args.program.now c.args.body set c.in_ok-used.used c.requires.valid (c.in_ok-used.ensures ∙ ap (λ (vars : List Var). vars_met vars set) c.as_slice.ensures) c.in_ok-touched.ensures.reads

pub returns-clause-defined : goal.returns-clause-defined
returns-clause-defined c =
    let set = c.in_ok-touched.touched.writes in
    defined_is c.args.program.now c.args.body set c.in_ok-defined.defined c.requires.valid (c.in_ok-defined.ensures ∙ ap (λ (vars : List Var). vars_met vars set) c.as_slice-2.ensures) c.in_ok-touched.ensures.writes
