use Rattle.std.proofs.lemmas.Grind.{elements}
use Rattle.std.proofs.Common.{sym, subst, Some, rules, arith}
use Rattle.ppd_check_names.specs.Reading.{goal_formula}
use Rattle.ppd_check_names.specs.Nodes.{operand_formula}
use Rattle.ppd_check_stmts.specs.Values.{goal_said}
use Rattle.ppd_check_stmts.specs.Expressions.{term_of, read}
use Rattle.ppd_check_stmts.specs.Forms.{Added}
use Rattle.ppd_check_stmts.proofs.Table.Flat.{added_element, with_ok}
use Rattle.ppd_check_stmts.proofs.stores.write_goal.Goals as goal

pub returns-in_ok-at-in-Item-clause-added : goal.returns-in_ok-at-in-Item-clause-added
returns-in_ok-at-in-Item-clause-added g c =
    with_ok c.put-in-Item.result _ _ _
    (λ n new number. subst (λ g. Added c.args.table.now.exprs (term_of c.args.frame.now.scopes (goal_formula (goal_said c.args.source.nodes.now g))) c.put-in-Item.new.exprs n) (sym c.in-Item.is)
    (subst (λ m. Added c.args.table.now.exprs (read m (Some (term_of c.args.frame.now.scopes (operand_formula c.args.source.nodes.now c.in-Item.index)))) c.put-in-Item.new.exprs n) c.used-meaning-in-Item.ensures.means
    (added_element _ _ _ _ _ _ _ n c.element_expr.ensures c.in_ok-at-in-Item.ensures.added new number)))
    c.put-in-Item.ensures.added c.put-in-Item.ensures.number

pub element_expr-requires : goal.element_expr-requires
element_expr-requires g c = search rules depth 1 fits 30

pub formula-requires : goal.formula-requires
formula-requires g c = search rules depth 1 fits 30

pub put-requires : goal.put-requires
put-requires g c = search rules depth 1 fits 30

pub put-requires-in-Item : goal.put-requires-in-Item
put-requires-in-Item g c = search rules depth 1 fits 30

pub returns-in-Scalar-clause-cost : goal.returns-in-Scalar-clause-cost
returns-in-Scalar-clause-cost g c = search rules depth 1 fits 30

pub returns-in-Scalar-clause-found : goal.returns-in-Scalar-clause-found
returns-in-Scalar-clause-found g c = search rules depth 1 fits 30

pub returns-in-Scalar-clause-stmts : goal.returns-in-Scalar-clause-stmts
returns-in-Scalar-clause-stmts g c = search rules depth 1 fits 30

pub returns-in_err-at-in-Item-clause-added : goal.returns-in_err-at-in-Item-clause-added
returns-in_err-at-in-Item-clause-added g c = grind (arith, elements) steps 250000

pub returns-in_err-at-in-Item-clause-cost : goal.returns-in_err-at-in-Item-clause-cost
returns-in_err-at-in-Item-clause-cost g c = search rules depth 1 fits 30

pub returns-in_err-at-in-Item-clause-found : goal.returns-in_err-at-in-Item-clause-found
returns-in_err-at-in-Item-clause-found g c = search rules depth 1 fits 30

pub returns-in_err-at-in-Item-clause-stmts : goal.returns-in_err-at-in-Item-clause-stmts
returns-in_err-at-in-Item-clause-stmts g c = search rules depth 1 fits 30

pub returns-in_ok-at-in-Item-clause-cost : goal.returns-in_ok-at-in-Item-clause-cost
returns-in_ok-at-in-Item-clause-cost g c = search rules depth 1 fits 30

pub returns-in_ok-at-in-Item-clause-found : goal.returns-in_ok-at-in-Item-clause-found
returns-in_ok-at-in-Item-clause-found g c = search rules depth 1 fits 30

pub returns-in_ok-at-in-Item-clause-stmts : goal.returns-in_ok-at-in-Item-clause-stmts
returns-in_ok-at-in-Item-clause-stmts g c = search rules depth 1 fits 30

pub scalar_expr-requires : goal.scalar_expr-requires
scalar_expr-requires g c = search rules depth 1 fits 30

pub used-meaning-requires : goal.used-meaning-requires
used-meaning-requires g c = search rules depth 1 fits 30

pub used-meaning-requires-in-Item : goal.used-meaning-requires-in-Item
used-meaning-requires-in-Item g c = search rules depth 1 fits 30
