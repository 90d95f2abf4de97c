use Rattle.std.proofs.Common.{◌∙◌, ap, subst, ℕ, [], ◌∷◌, ◌++◌, length}
use Rattle.ppd_ast.specs.declared.program.Kind.TheVariants as K
use Rattle.ppd_check_stmts.specs.Code as C
use Rattle.ppd_check_names.specs.declared.meaning.Use.TheVariants as U
use Rattle.ppd_check_names.specs.Faults.{first, first_of_both}
use Rattle.ppd_check_names.specs.Names.{meaning, number_as}
use Rattle.ppd_check_names.specs.Reading.{name_at, formula_at}
use Rattle.ppd_check_names.specs.Syntax.{Name, Formula}
use Rattle.ppd_check_names.specs.Nodes.{phrases_below, label_name, operand_formula}
use Rattle.ppd_check_stmts.specs.Expressions.{term_of, formula_faults, name_faults}
use Rattle.ppd_ast.specs.declared.program.Place.{Place}
use Rattle.ppd_check_stmts.specs.Table.{flats, root}
use Rattle.ppd_check_stmts.specs.Writing.{WroteAct}
use Rattle.ppd_check_names.proofs.Found.First.{found_in_both}
use Rattle.ppd_check_stmts.proofs.Table.Writing.{added_one, wrote_put}
use Rattle.ppd_check_names.proofs.Found.Outcomes.{both_ok}
use Rattle.ppd_check_stmts.proofs.simple.write_send.Goals as goal

pub returns-clause-wrote : goal.returns-clause-wrote
returns-clause-wrote g c =
    let s = c.args.frame.now.scopes in
    let u = c.args.out.now.table in
    let ps = phrases_below c.args.level.source.nodes.now c.args.id in
    let x = label_name c.label_at-name.result in
    let e = operand_formula c.args.level.source.nodes.now c.operand_at-operand.result in
    let fs = name_faults U.Channel s (name_at ps 2) ++ formula_faults s (formula_at ps 4) in
    both_ok c.put_stmt.result _ _ _ c.put_stmt.ensures.stmts c.put_stmt.ensures.row
    (λ t o. subst (λ (p : Place). WroteAct c.args.level.site p (C.send (number_as U.Channel (meaning s (name_at ps 2).text)) (term_of s (formula_at ps 4))) fs u c.put_stmt.new.out.table c.args.out.now.row c.put_stmt.new.out.row) c.place_at-place.ensures
    (wrote_put c.args.level.site.body c.args.level.site.parent c.place_at-place.result (C.send (number_as U.Channel (meaning s (name_at ps 2).text)) (term_of s (formula_at ps 4))) (K.Send c.channel_number-chan.result c.in_ok-number.number) fs u c.put_stmt.new.out.table c.args.out.now.row c.put_stmt.new.out.row c.write_term.new.table.stmts c.write_term.ensures.stmts
    (c.put_stmt.ensures.exprs ∙ added_one _ _ _ _ c.in_ok-number.ensures.added ∙ ap (λ (f : Formula). u.exprs ++ flats (length u.exprs) (term_of s f ∷ [])) c.operand_at-operand.ensures.formula)
    (ap (λ (n : ℕ). K.Send n c.in_ok-number.number) (c.channel_number-chan.ensures ∙ ap (number_as U.Channel) c.used-meaning.ensures.means ∙ ap (λ (y : Name). number_as U.Channel (meaning s y.text)) c.label_at-name.ensures)
    ∙ ap (λ (n : ℕ). K.Send (number_as U.Channel (meaning s (name_at ps 2).text)) n) (c.in_ok-number.ensures.added.number ∙ ap (λ (f : Formula). root (length u.exprs) (term_of s f)) c.operand_at-operand.ensures.formula))
    t o
    (c.put_stmt.ensures.found
    ∙ found_in_both u.found c.used-meaning.new.found c.write_term.new.table.found (name_faults U.Channel s x) (formula_faults s e) c.used-meaning.ensures.faults c.in_ok-number.ensures.faults
    ∙ ap (λ (y : Name). first_of_both u.found (first (name_faults U.Channel s y ++ formula_faults s e))) c.label_at-name.ensures
    ∙ ap (λ (f : Formula). first_of_both u.found (first (name_faults U.Channel s (name_at ps 2) ++ formula_faults s f))) c.operand_at-operand.ensures.formula)))
