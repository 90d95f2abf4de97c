use Rattle.std.proofs.Common.{◌≡◌, ◌∙◌, ap, length, ◌+◌, arith}
use Rattle.ppd_ast.specs.declared.program.Kind.TheVariants as K
use Rattle.ppd_ast.specs.Term as T
use Rattle.ppd_check_stmts.specs.Code as C
use Rattle.ppd_check_names.specs.Reading.{goal_formula}
use Rattle.ppd_check_stmts.specs.Statements.{spot_of}
use Rattle.ppd_check_stmts.specs.Table.{spot_terms, target}
use Rattle.ppd_check_stmts.specs.Values.{goal_said}
use Rattle.ppd_check_stmts.specs.Expressions.{formula_faults}
use Rattle.ppd_check_stmts.proofs.Table.Writing.{wrote_put, added_after}
use Rattle.ppd_check_names.proofs.Found.Outcomes.{both_ok}
use Rattle.ppd_check_stmts.proofs.hidden.write_move.Goals as goal

pub returns-clause-wrote : goal.returns-clause-wrote
returns-clause-wrote g c =
    let s = c.args.frame.now.scopes in
    let u = c.args.out.now.table in
    let g = goal_said c.args.here.level.source.nodes.now c.args.goal in
    let fs = formula_faults s (goal_formula g) in
    let number : c.in_ok-number.number ≡ length c.write_spot.new.table.exprs + 0 = omega (arith, c.in_ok-number.ensures.number) in
    let all = added_after u.exprs c.write_spot.new.table.exprs c.put.new.exprs (spot_terms (spot_of s g)) (T.local c.args.cell) c.in_ok-number.number c.in_ok-target.ensures.added (record { table = c.in_ok-number.ensures.added; number = number }) in
    both_ok c.put_stmt.result _ _ _ c.put_stmt.ensures.stmts c.put_stmt.ensures.row
    (λ t o. wrote_put c.args.here.level.site.body c.args.here.level.site.parent c.args.here.place (C.set (spot_of s g) (T.local c.args.cell)) (K.Set c.in_ok-target.target c.in_ok-number.number) fs u c.put_stmt.new.out.table c.args.out.now.row c.put_stmt.new.out.row c.write_spot.new.table.stmts c.write_spot.ensures.stmts
    (c.put_stmt.ensures.exprs ∙ all.table)
    (ap (λ d. K.Set d c.in_ok-number.number) c.in_ok-target.ensures.target ∙ ap (λ n. K.Set (target (length u.exprs) (spot_of s g)) n) all.number)
    t o
    (c.put_stmt.ensures.found ∙ c.in_ok-target.ensures.faults))
