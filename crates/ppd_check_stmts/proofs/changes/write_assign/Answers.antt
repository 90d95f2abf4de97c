use Rattle.std.proofs.Common.{◌∙◌, sym, ap, subst, ◌++◌, length}
use Rattle.ppd_ast.specs.declared.program.Kind.TheVariants as K
use Rattle.ppd_check_stmts.specs.Code as C
use Rattle.ppd_check_names.specs.Reading.{goal_formula}
use Rattle.ppd_check_stmts.specs.Statements.{spot_of}
use Rattle.ppd_check_stmts.specs.Table.{spot_terms, target}
use Rattle.ppd_check_names.specs.Nodes.{operand_formula}
use Rattle.ppd_check_stmts.specs.Values.{goal_said}
use Rattle.ppd_check_stmts.specs.Expressions.{term_of, formula_faults}
use Rattle.ppd_check_stmts.specs.Writing.{WroteAct}
use Rattle.ppd_check_names.proofs.Found.First.{found_in_both}
use Rattle.ppd_check_stmts.proofs.Table.Writing.{wrote_put, added_after}
use Rattle.ppd_check_names.proofs.Found.Outcomes.{both_ok}
use Rattle.ppd_check_stmts.proofs.changes.write_assign.Goals as goal

pub returns-clause-wrote : goal.returns-clause-wrote
returns-clause-wrote g c =
    let s = c.args.frame.now.scopes in
    let u = c.args.out.now.table in
    let g = goal_said c.args.level.source.nodes.now c.args.goal in
    let e = operand_formula c.args.level.source.nodes.now c.args.operand in
    let fs = formula_faults s (goal_formula g) ++ formula_faults s e in
    let all = added_after u.exprs c.write_spot.new.table.exprs c.write_term.new.table.exprs (spot_terms (spot_of s g)) (term_of s e) c.in_ok-number.number c.in_ok-target.ensures.added c.in_ok-number.ensures.added in
    both_ok c.put_stmt.result _ _ _ c.put_stmt.ensures.stmts c.put_stmt.ensures.row
    (λ t o. subst (λ p. WroteAct c.args.level.site p (C.set (spot_of s g) (term_of s e)) fs u c.put_stmt.new.out.table c.args.out.now.row c.put_stmt.new.out.row) (sym (c.place_of-place.ensures c.args.level.source.nodes.now))
    (wrote_put c.args.level.site.body c.args.level.site.parent c.place_of-place.result (C.set (spot_of s g) (term_of s e)) (K.Set c.in_ok-target.target c.in_ok-number.number) fs u c.put_stmt.new.out.table c.args.out.now.row c.put_stmt.new.out.row c.write_term.new.table.stmts (c.write_term.ensures.stmts ∙ c.write_spot.ensures.stmts)
    (c.put_stmt.ensures.exprs ∙ all.table)
    (ap (λ d. K.Set d c.in_ok-number.number) c.in_ok-target.ensures.target ∙ ap (λ n. K.Set (target (length u.exprs) (spot_of s g)) n) all.number)
    t o
    (c.put_stmt.ensures.found ∙ found_in_both u.found c.write_spot.new.table.found c.write_term.new.table.found (formula_faults s (goal_formula g)) (formula_faults s e) c.in_ok-target.ensures.faults c.in_ok-number.ensures.faults)))
