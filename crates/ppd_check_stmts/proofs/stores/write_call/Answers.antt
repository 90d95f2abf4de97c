use Rattle.std.proofs.Common.{◌≡◌, ◌∙◌, ap, subst, map, length, is_some}
use Rattle.ppd_ast.specs.declared.program.Kind.TheVariants as K
use Rattle.ppd_check_stmts.specs.Code as C
use Rattle.ppd_check_names.specs.declared.meaning.Use.TheVariants as U
use Rattle.ppd_check_names.specs.Faults.{first, first_of_both}
use Rattle.ppd_check_names.specs.Names.{meaning, number_as}
use Rattle.ppd_check_names.specs.Reading.{name_at, formulas}
use Rattle.ppd_check_names.specs.Nodes.{phrases_below, children_of}
use Rattle.ppd_check_stmts.specs.Writing.{Argued}
use Rattle.ppd_check_stmts.specs.Expressions.{term_of, wrong_call, call_faults}
use Rattle.ppd_check_stmts.proofs.Table.Arguments.{argued_call, argued_count}
use Rattle.ppd_check_stmts.proofs.Table.Writing.{wrote_put}
use Rattle.ppd_check_names.proofs.Found.Outcomes.{both_ok}
use Rattle.ppd_check_stmts.proofs.stores.write_call.Goals as goal

pub returns-clause-wrote : goal.returns-clause-wrote
returns-clause-wrote g c =
    let s = c.args.frame.now.scopes in
    let ps = phrases_below c.args.here.level.source.nodes.now c.args.id in
    let argued = subst (λ l. Argued c.args.here.level.source.nodes.now s (children_of c.args.here.level.source.nodes.now c.args.id) c.args.out.now.table.exprs c.arguments.new.table.exprs l c.arguments.new.args c.args.out.now.table.found c.arguments.new.table.found) c.new-args.ensures c.in_ok-arguments.ensures.argued in
    let fs = wrong_call (meaning s (name_at ps 0).text) (name_at ps 0).place (length (formulas ps)) (is_some c.args.into) in
    let label = c.label_at-name.ensures in
    let count = c.len.ensures ∙ argued_count c.args.here.level.source.nodes.now s c.args.id c.args.out.now.table.exprs c.arguments.new.table.exprs c.arguments.new.args c.args.out.now.table.found c.arguments.new.table.found argued in
    let noted : c.function-number.new.found ≡ first_of_both c.arguments.new.table.found (first fs) =
    c.function-number.ensures.faults
    ∙ ap (λ x. first_of_both c.arguments.new.table.found (first (wrong_call (meaning s x.text) x.place c.len.result c.is_some.result))) label
    ∙ ap (λ n. first_of_both c.arguments.new.table.found (first (wrong_call (meaning s (name_at ps 0).text) (name_at ps 0).place n c.is_some.result))) count
    ∙ ap (λ b. first_of_both c.arguments.new.table.found (first (wrong_call (meaning s (name_at ps 0).text) (name_at ps 0).place (length (formulas ps)) b))) c.is_some.ensures in
    let all = argued_call c.args.here.level.source.nodes.now s c.args.id c.args.out.now.table.exprs c.arguments.new.table.exprs c.arguments.new.args c.args.out.now.table.found c.arguments.new.table.found c.function-number.new.found fs argued noted in
    both_ok c.put_stmt.result _ _ _ c.put_stmt.ensures.stmts c.put_stmt.ensures.row
    (λ t o. wrote_put c.args.here.level.site.body c.args.here.level.site.parent c.args.here.place (C.call (number_as U.Function (meaning s (name_at ps 0).text)) (map (term_of s) (formulas ps)) c.args.into) (K.Call c.function-number.result c.arguments.new.args c.args.into)
    (call_faults s (is_some c.args.into) (name_at ps 0) (formulas ps)) c.args.out.now.table c.put_stmt.new.out.table c.args.out.now.row c.put_stmt.new.out.row c.arguments.new.table.stmts c.arguments.ensures.stmts
    (c.put_stmt.ensures.exprs ∙ all.0.table)
    (ap (λ n. K.Call n c.arguments.new.args c.args.into) (c.function-number.ensures.number ∙ ap (λ x. number_as U.Function (meaning s x.text)) label)
    ∙ ap (λ ids. K.Call (number_as U.Function (meaning s (name_at ps 0).text)) ids c.args.into) all.0.numbers)
    t o
    (c.put_stmt.ensures.found ∙ all.1))
