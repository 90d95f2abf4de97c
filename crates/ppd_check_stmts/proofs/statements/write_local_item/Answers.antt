use Rattle.std.proofs.Common.{◌∙◌, ap, subst, rules}
use Rattle.ppd_check_names.specs.Nodes.{label_name, phrases_below}
use Rattle.ppd_check_names.specs.Syntax.{Simple}
use Rattle.ppd_check_stmts.specs.Statements.{after}
use Rattle.ppd_check_stmts.specs.Writing.{WroteSimple}
use Rattle.ppd_check_names.proofs.Found.Outcomes.{ok_map}
use Rattle.ppd_check_stmts.proofs.Rows.Worded.{item_array, item_begun, item_fresh}
use Rattle.ppd_check_stmts.proofs.statements.write_local_item.Goals as goal

pub returns-in-LeftBracket-clause-wrote : goal.returns-in-LeftBracket-clause-wrote
returns-in-LeftBracket-clause-wrote g c =
    let ps = phrases_below c.args.level.source.nodes.now c.args.id in
    ok_map c.write_array.result _ _
    (λ w. subst (λ (s : Simple). WroteSimple c.args.level.site s c.args.frame.now c.args.out.now.table c.write_array.new.out.table c.args.out.now.row c.write_array.new.out.row) (item_array (label_name c.label_at-name.result) _ ps c.in-LeftBracket.ensures c.label_at-name.ensures c.size_at-size.ensures) w)
    c.write_array.ensures.wrote

pub returns-in-LeftBracket-clause-frame : goal.returns-in-LeftBracket-clause-frame
returns-in-LeftBracket-clause-frame g c =
    let ps = phrases_below c.args.level.source.nodes.now c.args.id in
    ok_map c.write_array.result _ _ (λ e. e ∙ ap (λ (s : Simple). after s c.args.frame.now) (item_array (label_name c.label_at-name.result) _ ps c.in-LeftBracket.ensures c.label_at-name.ensures c.size_at-size.ensures)) c.write_array.ensures.frame

pub returns-in-AssignMark-clause-wrote : goal.returns-in-AssignMark-clause-wrote
returns-in-AssignMark-clause-wrote g c =
    let ps = phrases_below c.args.level.source.nodes.now c.args.id in
    ok_map c.write_fresh.result _ _
    (λ w. subst (λ (s : Simple). WroteSimple c.args.level.site s c.args.frame.now c.args.out.now.table c.write_fresh.new.out.table c.args.out.now.row c.write_fresh.new.out.row) (item_begun (label_name c.label_at-name.result) _ ps c.in-AssignMark.ensures c.label_at-name.ensures c.value_at-value.ensures.value) w)
    c.write_fresh.ensures.wrote

pub returns-in-AssignMark-clause-frame : goal.returns-in-AssignMark-clause-frame
returns-in-AssignMark-clause-frame g c =
    let ps = phrases_below c.args.level.source.nodes.now c.args.id in
    ok_map c.write_fresh.result _ _ (λ e. e ∙ ap (λ (s : Simple). after s c.args.frame.now) (item_begun (label_name c.label_at-name.result) _ ps c.in-AssignMark.ensures c.label_at-name.ensures c.value_at-value.ensures.value)) c.write_fresh.ensures.frame

pub returns-in_default-clause-wrote : goal.returns-in_default-clause-wrote
returns-in_default-clause-wrote g c =
    let ps = phrases_below c.args.level.source.nodes.now c.args.id in
    ok_map c.write_fresh-in_default.result _ _
    (λ w. subst (λ (s : Simple). WroteSimple c.args.level.site s c.args.frame.now c.args.out.now.table c.write_fresh-in_default.new.out.table c.args.out.now.row c.write_fresh-in_default.new.out.row) (item_fresh c.kind_at.result (label_name c.label_at-name.result) ps c.in_default.not-LeftBracket c.in_default.not-AssignMark c.kind_at.ensures c.label_at-name.ensures) w)
    c.write_fresh-in_default.ensures.wrote

pub returns-in_default-clause-frame : goal.returns-in_default-clause-frame
returns-in_default-clause-frame g c =
    let ps = phrases_below c.args.level.source.nodes.now c.args.id in
    ok_map c.write_fresh-in_default.result _ _ (λ e. e ∙ ap (λ (s : Simple). after s c.args.frame.now) (item_fresh c.kind_at.result (label_name c.label_at-name.result) ps c.in_default.not-LeftBracket c.in_default.not-AssignMark c.kind_at.ensures c.label_at-name.ensures)) c.write_fresh-in_default.ensures.frame

pub kind_at-requires : goal.kind_at-requires
kind_at-requires g c = search rules depth 1 fits 30

pub label_at-name-requires : goal.label_at-name-requires
label_at-name-requires g c = search rules depth 1 fits 30

pub returns-in-AssignMark-clause-cost : goal.returns-in-AssignMark-clause-cost
returns-in-AssignMark-clause-cost g c = search rules depth 1 fits 30

pub returns-in-LeftBracket-clause-cost : goal.returns-in-LeftBracket-clause-cost
returns-in-LeftBracket-clause-cost g c = search rules depth 1 fits 30

pub returns-in_default-clause-cost : goal.returns-in_default-clause-cost
returns-in_default-clause-cost g c = search rules depth 1 fits 30

pub size_at-size-requires : goal.size_at-size-requires
size_at-size-requires g c = search rules depth 1 fits 30

pub value_at-value-requires : goal.value_at-value-requires
value_at-value-requires g c = search rules depth 1 fits 30

pub write_array-requires : goal.write_array-requires
write_array-requires g c = search rules depth 1 fits 30

pub write_fresh-requires : goal.write_fresh-requires
write_fresh-requires g c = search rules depth 1 fits 30

pub write_fresh-requires-in_default : goal.write_fresh-requires-in_default
write_fresh-requires-in_default g c = search rules depth 1 fits 30
