use Rattle.ppd_check_names.proofs.Declared.Costs.{ok_any}
use Rattle.ppd_check_names.proofs.Found.First.{found_in_both}
use Rattle.ppd_check_names.specs.Faults.{first, first_of_both}
use Rattle.ppd_check_names.specs.Nodes.{operand_formula}
use Rattle.ppd_check_names.specs.declared.meaning.Use.TheVariants as U
use Rattle.ppd_check_stmts.proofs.Table.Flat.{added_element, added_inverted, added_joined, added_negated, faults_joined, with_ok}
use Rattle.ppd_check_stmts.proofs.formulas.+formula.Goals as goal
use Rattle.ppd_check_stmts.specs.Expressions.{formula_faults, name_faults, read, term_of}
use Rattle.ppd_check_stmts.specs.Forms.{Added}
use Rattle.std.proofs.Common.{Some, [], ap, subst, sym, ◌++◌, ◌∙◌, ◌∷◌}

pub formula_at-returns-in_ok-at-in-Element-clause-added : goal.formula_at-returns-in_ok-at-in-Element-clause-added
formula_at-returns-in_ok-at-in-Element-clause-added g t c =
    with_ok c.put-in-Element.result _ _ _
    (λ n new number. subst (λ f. Added c.args.exprs.now (term_of c.args.scopes.now f) c.put-in-Element.new.exprs n) c.in-Element.ensures.formula
    (subst (λ m. Added c.args.exprs.now (read m (Some (term_of c.args.scopes.now (operand_formula c.args.source.nodes.now c.in-Element.index)))) c.put-in-Element.new.exprs n) c.used-meaning-in-Element.ensures.means
    (added_element _ _ _ _ _ _ _ n c.element_expr.ensures c.in_ok-at-in-Element.ensures.added new number)))
    c.put-in-Element.ensures.added c.put-in-Element.ensures.number

pub formula_at-returns-in_ok-at-in-Element-clause-faults : goal.formula_at-returns-in_ok-at-in-Element-clause-faults
formula_at-returns-in_ok-at-in-Element-clause-faults g t c =
    ok_any c.put-in-Element.result _
    (found_in_both c.args.found.now c.used-meaning-in-Element.new.found c.formula.new.found
    (name_faults U.Element c.args.scopes.now (record { text = c.in-Element.name.text.now; place = c.in-Element.name.place }))
    (formula_faults c.args.scopes.now (operand_formula c.args.source.nodes.now c.in-Element.index)) c.used-meaning-in-Element.ensures.faults c.in_ok-at-in-Element.ensures.faults
    ∙ ap (λ f. first_of_both c.args.found.now (first (formula_faults c.args.scopes.now f))) c.in-Element.ensures.formula)

pub formula_at-returns-in_ok-a-in-Negated-clause-added : goal.formula_at-returns-in_ok-a-in-Negated-clause-added
formula_at-returns-in_ok-a-in-Negated-clause-added g t c =
    with_ok c.put-in-Negated.result _ _ _
    (λ n new number. subst (λ f. Added c.args.exprs.now (term_of c.args.scopes.now f) c.put-in-Negated.new.exprs n) c.in-Negated.ensures.formula
    (added_negated c.args.scopes.now _ _ _ _ _ n c.in_ok-a-in-Negated.ensures.added new number))
    c.put-in-Negated.ensures.added c.put-in-Negated.ensures.number

pub formula_at-returns-in_ok-a-in-Inverted-clause-added : goal.formula_at-returns-in_ok-a-in-Inverted-clause-added
formula_at-returns-in_ok-a-in-Inverted-clause-added g t c =
    with_ok c.put-in-Inverted.result _ _ _
    (λ n new number. subst (λ f. Added c.args.exprs.now (term_of c.args.scopes.now f) c.put-in-Inverted.new.exprs n) c.in-Inverted.ensures.formula
    (added_inverted c.args.scopes.now _ _ _ _ _ n c.in_ok-a-in-Inverted.ensures.added new number))
    c.put-in-Inverted.ensures.added c.put-in-Inverted.ensures.number

pub formula_at-returns-in_ok-b-in-Joined-clause-added : goal.formula_at-returns-in_ok-b-in-Joined-clause-added
formula_at-returns-in_ok-b-in-Joined-clause-added g t c =
    with_ok c.put-in-Joined.result _ _ _
    (λ n new number. subst (λ f. Added c.args.exprs.now (term_of c.args.scopes.now f) c.put-in-Joined.new.exprs n) c.in-Joined.ensures.formula
    (added_joined c.args.scopes.now c.in-Joined.operator _ _ _ _ _ _ _ _ n c.in_ok-a-in-Joined.ensures.added c.in_ok-b-in-Joined.ensures.added
    (new ∙ ap (λ e. c.formula-in-Joined-2.new.exprs ++ e ∷ []) c.joined_expr.ensures) number))
    c.put-in-Joined.ensures.added c.put-in-Joined.ensures.number

pub formula_at-returns-in_ok-b-in-Joined-clause-faults : goal.formula_at-returns-in_ok-b-in-Joined-clause-faults
formula_at-returns-in_ok-b-in-Joined-clause-faults g t c =
    ok_any c.put-in-Joined.result _
    (found_in_both c.args.found.now c.formula-in-Joined.new.found c.formula-in-Joined-2.new.found (formula_faults c.args.scopes.now (operand_formula c.args.source.nodes.now c.in-Joined.left)) (formula_faults c.args.scopes.now (operand_formula c.args.source.nodes.now c.in-Joined.right)) c.in_ok-a-in-Joined.ensures.faults c.in_ok-b-in-Joined.ensures.faults
    ∙ ap (λ fs. first_of_both c.args.found.now (first fs)) (sym (faults_joined c.args.scopes.now c.in-Joined.operator _ _))
    ∙ ap (λ f. first_of_both c.args.found.now (first (formula_faults c.args.scopes.now f))) c.in-Joined.ensures.formula)
