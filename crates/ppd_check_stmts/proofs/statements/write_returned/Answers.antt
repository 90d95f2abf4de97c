use Rattle.std.proofs.Common.{◌∙◌, None, Option, Some, ap, subst}
use Rattle.ppd_ast.specs.declared.program.Place.{Place}
use Rattle.ppd_check_names.specs.Nodes.{phrases_below}
use Rattle.ppd_check_names.specs.Reading.{phrase, place_at}
use Rattle.ppd_check_names.specs.Syntax.{Simple, Value, give_back}
use Rattle.ppd_check_names.proofs.Declared.Costs.{ok_any}
use Rattle.ppd_check_names.proofs.Found.Outcomes.{ok_map}
use Rattle.ppd_check_stmts.specs.Statements.{after}
use Rattle.ppd_check_stmts.specs.Values.{value_said_by}
use Rattle.ppd_check_stmts.specs.Writing.{WroteSimple}
use Rattle.ppd_check_stmts.proofs.Rows.Worded.{returned_none, returned_some}
use Rattle.ppd_check_stmts.proofs.statements.write_returned.Goals as goal

pub returns-in-Semicolon-clause-wrote : goal.returns-in-Semicolon-clause-wrote
returns-in-Semicolon-clause-wrote g c =
    let ps = phrases_below c.args.level.source.nodes.now c.args.id in
    ok_map c.write_return.result _ _
    (λ w. subst (λ (s : Simple). WroteSimple c.args.level.site s c.args.frame.now c.args.out.now.table c.write_return.new.out.table c.args.out.now.row c.write_return.new.out.row)
    (ap (λ (q : Place). give_back q None) c.place_at-place.ensures ∙ ap (give_back (place_at ps 0)) (returned_none (phrase ps 1) c.in-Semicolon.ensures)) w)
    c.write_return.ensures.wrote

pub returns-in-Semicolon-clause-frame : goal.returns-in-Semicolon-clause-frame
returns-in-Semicolon-clause-frame g c =
    let ps = phrases_below c.args.level.source.nodes.now c.args.id in
    ok_any c.write_return.result _ (ap (λ (v : Option Value). after (give_back (place_at ps 0) v) c.args.frame.now) (returned_none (phrase ps 1) c.in-Semicolon.ensures))

pub returns-in_default-clause-wrote : goal.returns-in_default-clause-wrote
returns-in_default-clause-wrote g c =
    let ps = phrases_below c.args.level.source.nodes.now c.args.id in
    ok_map c.write_return_value.result _ _
    (λ w. subst (λ (s : Simple). WroteSimple c.args.level.site s c.args.frame.now c.args.out.now.table c.write_return_value.new.out.table c.args.out.now.row c.write_return_value.new.out.row)
    (ap (λ (q : Place). give_back q (Some (value_said_by c.args.level.source.nodes.now c.value_at-value.result))) c.place_at-place.ensures ∙ ap (λ (v : Value). give_back (place_at ps 0) (Some v)) c.value_at-value.ensures.value ∙ ap (give_back (place_at ps 0)) (returned_some c.kind_at.result (phrase ps 1) c.in_default.not-Semicolon c.kind_at.ensures)) w)
    c.write_return_value.ensures.wrote

pub returns-in_default-clause-frame : goal.returns-in_default-clause-frame
returns-in_default-clause-frame g c =
    let ps = phrases_below c.args.level.source.nodes.now c.args.id in
    ok_map c.write_return_value.result _ _
    (λ e. e ∙ ap (λ (s : Simple). after s c.args.frame.now)
    (ap (λ (q : Place). give_back q (Some (value_said_by c.args.level.source.nodes.now c.value_at-value.result))) c.place_at-place.ensures ∙ ap (λ (v : Value). give_back (place_at ps 0) (Some v)) c.value_at-value.ensures.value ∙ ap (give_back (place_at ps 0)) (returned_some c.kind_at.result (phrase ps 1) c.in_default.not-Semicolon c.kind_at.ensures)))
    c.write_return_value.ensures.frame
