use Rattle.std.proofs.Common.{◌∙◌, sym, ap, arith, get_or}
use Rattle.std.proofs.lemmas.List.{get_or_default}
use Rattle.ppd_check_names.specs.Nodes.{phrase_of, phrases_below}
use Rattle.ppd_check_names.specs.Reading.{as_row, phrase, place_at, formula_at, worded, statement}
use Rattle.ppd_check_stmts.specs.Plain.{plain_statement}
use Rattle.ppd_check_stmts.proofs.Rows.Nested.{rows_more, walked_block}
use Rattle.ppd_check_stmts.proofs.Rows.Steps.{row_walked}
use Rattle.ppd_check_names.proofs.Found.Outcomes.{ok_map, both_ok}
use Rattle.ppd_check_stmts.proofs.Rows.Whole.{with_row, wrote_row, walked_below, walked_as, walked_stop, walked_alone, if_walked, while_walked, for_walked, worded_if, worded_while, worded_for, row_locals, statement_named}
use Rattle.ppd_check_names.proofs.Table.Costs.{nested_one, nested_two, parts_but}
use Rattle.ppd_check_stmts.proofs.Costs.Children.{next_child, child_part, all_children}
use Rattle.ppd_check_stmts.proofs.walk.+walk.Goals as goal

pub write_rows-loop-child-preserved : goal.write_rows-loop-child-preserved
write_rows-loop-child-preserved g t c = record {
  walked =
      rows_more c.args.level.site c.args.level.source.nodes.now c.children_of-child-items.result.now c.loop-child.child-index (get_or c.children_of-child-items.result.now c.loop-child.child-index 0)
      c.args.frame.now c.loop-child.frame c.write_statement.new.frame c.args.out.now.table c.loop-child.out.table c.write_statement.new.out.table c.args.out.now.row c.loop-child.out.row c.write_statement.new.out.row
      (omega (arith, c.loop-child-test.true))
      (get_or_default c.children_of-child-items.result.now c.loop-child.child-index 0 _ (omega (arith, c.loop-child-test.true)))
      c.loop-child.invariant.walked c.in_ok-write_statement.ensures.walked;
  cost = let more = next_child c.args.level.source.nodes.now c.loop-child.child-index c.children_of-child-items.result.now (omega (arith, c.loop-child-test.true)) in omega (arith, c.loop-child.invariant.cost, c.tick-in-loop-child.ensures, c.in_ok-write_statement.ensures.cost, more.0, more.1, more.2);
}

pub write_rows-returns-clause-walked : goal.write_rows-returns-clause-walked
write_rows-returns-clause-walked g t c =
    walked_below c.args.level.site c.args.level.source.nodes.now c.args.id c.loop-child.child-index c.children_of-child-items.result.now c.args.frame.now c.loop-child.frame c.args.out.now.table c.loop-child.out.table c.args.out.now.row c.loop-child.out.row
    c.children_of-child-items.ensures.children (omega (arith, c.loop-child-test.false)) c.loop-child.invariant.walked

pub write_nested-returns-clause-walked : goal.write_nested-returns-clause-walked
write_nested-returns-clause-walked g t c =
    walked_block c.args.level.site _ c.args.frame.now c.open.new.frame c.write_rows.new.frame c.close.new.frame c.args.out.now.table c.write_rows.new.out.table c.args.out.now.row c.write_rows.new.out.row
    c.in_ok-open.ensures.opened c.in_ok-write_rows.ensures.walked c.close.ensures

pub write_child-returns-in-None-clause-walked : goal.write_child-returns-in-None-clause-walked
write_child-returns-in-None-clause-walked g t c = walked_stop c.args.level.site _ c.args.frame.now c.args.out.now.table c.args.out.now.row (ap as_row c.in-None.ensures.said)

pub write_child-returns-in-Some-clause-walked : goal.write_child-returns-in-Some-clause-walked
write_child-returns-in-Some-clause-walked g t c =
    ok_map c.write_statement.result _ _
    (λ x. walked_as c.args.level.site (as_row (phrase_of c.args.level.source.nodes.now c.in-Some.child)) (as_row (phrase (phrases_below c.args.level.source.nodes.now c.args.id) c.args.k)) c.args.frame.now c.write_statement.new.frame c.args.out.now.table c.write_statement.new.out.table c.args.out.now.row c.write_statement.new.out.row
    (sym (ap as_row c.in-Some.ensures.said)) x)
    c.write_statement.ensures.walked

pub write_inside-returns-clause-walked : goal.write_inside-returns-clause-walked
write_inside-returns-clause-walked g t c =
    with_row _ _ _ _ _ _ _ _ _ c.replace.ensures.value
    (walked_alone _ _ c.args.frame.now c.write_child.new.frame c.args.out.now.table c.write_child.new.out.table c.replace-outer.new.dest c.write_child.new.out.row (c.replace-outer.ensures.after ∙ c.new-row.ensures) c.in_ok-write_child.ensures.walked)

pub write_if-returns-clause-walked : goal.write_if-returns-clause-walked
write_if-returns-clause-walked g t c =
    let ps = phrases_below c.args.level.source.nodes.now c.args.id in
    with_row _ _ _ _ _ _ _ _ _ (c.in_ok-no.ensures.row ∙ c.in_ok-yes.ensures.row)
    (if_walked c.args.level.site (place_at ps 0) c.place_at-place.result (formula_at ps 2) _ (as_row (phrase ps 4)) (as_row (phrase ps 6))
    c.args.frame.now c.write_inside.new.frame c.write_inside-2.new.frame c.args.out.now.table c.begin.new.out.table c.write_inside.new.out.table c.write_inside-2.new.out.table c.set_stmt.new.out
    c.in_ok-begun.begun.at c.in_ok-begun.begun.test c.in_ok-yes.yes c.in_ok-no.no c.args.out.now.row c.begin.new.out.row
    c.place_at-place.ensures c.operand_at-test.ensures.formula
    c.in_ok-begun.ensures.began c.in_ok-yes.ensures.walked c.in_ok-no.ensures.walked
    (record { exprs = c.set_stmt.ensures.exprs; found = c.set_stmt.ensures.found; stmts = c.set_stmt.ensures.stmts }))

pub write_while-returns-clause-walked : goal.write_while-returns-clause-walked
write_while-returns-clause-walked g t c =
    let ps = phrases_below c.args.level.source.nodes.now c.args.id in
    with_row _ _ _ _ _ _ _ _ _ c.in_ok-turn.ensures.row
    (while_walked c.args.level.site (place_at ps 0) c.place_at-place.result (formula_at ps 2) _ (as_row (phrase ps 4))
    c.args.frame.now c.write_inside.new.frame c.args.out.now.table c.begin.new.out.table c.write_inside.new.out.table c.set_stmt.new.out
    c.in_ok-begun.begun.at c.in_ok-begun.begun.test c.in_ok-turn.turn c.args.out.now.row c.begin.new.out.row
    c.place_at-place.ensures c.operand_at-test.ensures.formula
    c.in_ok-begun.ensures.began c.in_ok-turn.ensures.walked
    (record { exprs = c.set_stmt.ensures.exprs; found = c.set_stmt.ensures.found; stmts = c.set_stmt.ensures.stmts }))

pub write_for-returns-clause-walked : goal.write_for-returns-clause-walked
write_for-returns-clause-walked g t c =
    let ps = phrases_below c.args.level.source.nodes.now c.args.id in
    with_row _ _ _ _ _ _ _ _ _ (c.replace-turn.ensures.after ∙ c.replace-outer.ensures.value)
    (for_walked c.args.level.site ps c.place_at-place.result _ (phrase ps c.last_of-last.result)
    c.args.frame.now c.open.new.frame c.write_start.new.frame c.write_child.new.frame c.write_step.new.frame c.close.new.frame
    c.args.out.now.table c.write_start.new.out.table c.begin.new.out.table c.write_child.new.out.table c.write_step.new.out.table c.set_stmt.new.out
    c.in_ok-begun.begun.at c.in_ok-begun.begun.test c.write_child.new.out.row c.replace-turn.result c.args.out.now.row c.write_start.new.out.row c.begin.new.out.row
    c.place_at-place.ensures c.test_of-test.ensures.formula c.last_of-last.ensures
    c.in_ok-open.ensures.opened c.in_ok-write_start.ensures.walked c.in_ok-begun.ensures.began
    (walked_alone _ _ c.write_start.new.frame c.write_child.new.frame c.begin.new.out.table c.write_child.new.out.table c.replace-outer.new.dest c.write_child.new.out.row (c.replace-outer.ensures.after ∙ c.new-row.ensures) c.in_ok-write_child.ensures.walked)
    (wrote_row _ _ _ _ _ _ _ _ _ c.replace-turn.ensures.value c.in_ok-write_step.ensures.wrote) c.in_ok-write_step.ensures.frame
    (record { exprs = c.set_stmt.ensures.exprs; found = c.set_stmt.ensures.found; stmts = c.set_stmt.ensures.stmts })
    c.close.ensures)

pub write_worded-returns-in-IfWord-clause-walked : goal.write_worded-returns-in-IfWord-clause-walked
write_worded-returns-in-IfWord-clause-walked g t c =
    ok_map c.write_if.result _ _ (λ x. walked_as c.args.level.site _ (worded (phrases_below c.args.level.source.nodes.now c.args.id)) c.args.frame.now c.write_if.new.frame c.args.out.now.table c.write_if.new.out.table c.args.out.now.row c.write_if.new.out.row
    (worded_if (phrases_below c.args.level.source.nodes.now c.args.id) (sym c.in-IfWord.ensures)) x)
    c.write_if.ensures.walked

pub write_worded-returns-in-WhileWord-clause-walked : goal.write_worded-returns-in-WhileWord-clause-walked
write_worded-returns-in-WhileWord-clause-walked g t c =
    ok_map c.write_while.result _ _ (λ x. walked_as c.args.level.site _ (worded (phrases_below c.args.level.source.nodes.now c.args.id)) c.args.frame.now c.write_while.new.frame c.args.out.now.table c.write_while.new.out.table c.args.out.now.row c.write_while.new.out.row
    (worded_while (phrases_below c.args.level.source.nodes.now c.args.id) (sym c.in-WhileWord.ensures)) x)
    c.write_while.ensures.walked

pub write_worded-returns-in-ForWord-clause-walked : goal.write_worded-returns-in-ForWord-clause-walked
write_worded-returns-in-ForWord-clause-walked g t c =
    ok_map c.write_for.result _ _ (λ x. walked_as c.args.level.site _ (worded (phrases_below c.args.level.source.nodes.now c.args.id)) c.args.frame.now c.write_for.new.frame c.args.out.now.table c.write_for.new.out.table c.args.out.now.row c.write_for.new.out.row
    (worded_for (phrases_below c.args.level.source.nodes.now c.args.id) (sym c.in-ForWord.ensures)) x)
    c.write_for.ensures.walked

pub write_stmt-returns-in_default-clause-walked : goal.write_stmt-returns-in_default-clause-walked
write_stmt-returns-in_default-clause-walked g t c =
    let ns = c.args.level.source.nodes.now in
    let ps = phrases_below ns c.args.id in
    let p = phrase_of ns c.in-Some.child in
    both_ok c.write_named.result _ _ _ c.write_named.ensures.wrote c.write_named.ensures.frame
    (λ w e. walked_as c.args.level.site (plain_statement (phrase ps 0) ps) (statement (phrase ps 0) ps) c.args.frame.now c.write_named.new.frame c.args.out.now.table c.write_named.new.out.table c.args.out.now.row c.write_named.new.out.row
    (statement_named c.rule_of.result (phrases_below ns c.in-Some.child) (phrase ps 0) p ps c.in-Some.ensures.said c.in_default.not-Leaf c.in_default.not-Block c.rule_of.ensures.said)
    (row_walked c.args.level.site (plain_statement (phrase ps 0) ps) c.args.frame.now c.write_named.new.frame c.args.out.now.table c.write_named.new.out.table c.args.out.now.row c.write_named.new.out.row w e))

pub write_statement-returns-in-Local-clause-walked : goal.write_statement-returns-in-Local-clause-walked
write_statement-returns-in-Local-clause-walked g t c =
    ok_map c.write_locals.result _ _ (λ x. walked_as c.args.level.site _ (as_row (phrase_of c.args.level.source.nodes.now c.args.id)) c.args.frame.now c.write_locals.new.frame c.args.out.now.table c.write_locals.new.out.table c.args.out.now.row c.write_locals.new.out.row
    (row_locals c.args.level.source.nodes.now c.args.id c.in-Local.ensures.said) x)
    c.write_locals.ensures.walked

pub write_rows-returns-clause-cost : goal.write_rows-returns-clause-cost
write_rows-returns-clause-cost g t c =
    let all = all_children c.args.level.source.nodes.now c.args.id c.loop-child.child-index c.children_of-child-items.result.now c.children_of-child-items.ensures.children (omega (arith, c.loop-child-test.false)) in
    omega (arith, c.loop-child.invariant.cost, all.0, all.1)

pub write_if-returns-clause-cost : goal.write_if-returns-clause-cost
write_if-returns-clause-cost g t c =
    omega (arith, c.tick.ensures, c.operand_at-test.ensures.few, c.begin.ensures.cost, c.write_inside.ensures.cost, c.write_inside-2.ensures.cost, nested_two c.args.level.source.nodes.now c.args.id 4 6 (omega arith))

pub write_while-returns-clause-cost : goal.write_while-returns-clause-cost
write_while-returns-clause-cost g t c =
    omega (arith, c.tick.ensures, c.operand_at-test.ensures.few, c.begin.ensures.cost, c.write_inside.ensures.cost, nested_one c.args.level.source.nodes.now c.args.id 4)

pub write_for-returns-clause-cost : goal.write_for-returns-clause-cost
write_for-returns-clause-cost g t c =
    omega (
      arith,
      c.tick.ensures,
      c.test_of-test.ensures.cost,
      c.test_of-test.ensures.nodes,
      c.open.ensures.cost,
      c.write_start.ensures.cost,
      c.begin.ensures.cost,
      c.write_child.ensures.cost,
      c.write_step.ensures.cost,
      parts_but c.args.level.source.nodes.now c.args.id c.last_of-last.result,
      nested_one c.args.level.source.nodes.now c.args.id c.last_of-last.result,
    )

pub write_rows-returns-in_err-write_statement-clause-cost : goal.write_rows-returns-in_err-write_statement-clause-cost
write_rows-returns-in_err-write_statement-clause-cost g t c =
    let part = child_part c.args.level.source.nodes.now c.args.id c.loop-child.child-index c.children_of-child-items.result.now c.children_of-child-items.ensures.children (omega (arith, c.loop-child-test.true)) in
    omega (arith, c.loop-child.invariant.cost, c.tick-in-loop-child.ensures, c.write_statement.ensures.cost, part.0, part.1, part.2)

pub write_for-returns-in_err-open-clause-cost : goal.write_for-returns-in_err-open-clause-cost
write_for-returns-in_err-open-clause-cost g t c = omega (arith, c.tick.ensures, c.test_of-test.ensures.cost, c.open.ensures.cost, parts_but c.args.level.source.nodes.now c.args.id c.last_of-last.result, nested_one c.args.level.source.nodes.now c.args.id c.last_of-last.result)

pub write_for-returns-in_err-write_start-clause-cost : goal.write_for-returns-in_err-write_start-clause-cost
write_for-returns-in_err-write_start-clause-cost g t c = omega (arith, c.tick.ensures, c.test_of-test.ensures.cost, c.open.ensures.cost, c.write_start.ensures.cost, parts_but c.args.level.source.nodes.now c.args.id c.last_of-last.result, nested_one c.args.level.source.nodes.now c.args.id c.last_of-last.result)

pub write_for-returns-in_err-begun-clause-cost : goal.write_for-returns-in_err-begun-clause-cost
write_for-returns-in_err-begun-clause-cost g t c = omega (arith, c.tick.ensures, c.test_of-test.ensures.cost, c.open.ensures.cost, c.write_start.ensures.cost, c.test_of-test.ensures.nodes, c.begin.ensures.cost, parts_but c.args.level.source.nodes.now c.args.id c.last_of-last.result, nested_one c.args.level.source.nodes.now c.args.id c.last_of-last.result)

pub write_for-returns-in_err-write_child-clause-cost : goal.write_for-returns-in_err-write_child-clause-cost
write_for-returns-in_err-write_child-clause-cost g t c = omega (arith, c.tick.ensures, c.test_of-test.ensures.cost, c.open.ensures.cost, c.write_start.ensures.cost, c.test_of-test.ensures.nodes, c.begin.ensures.cost, c.write_child.ensures.cost, parts_but c.args.level.source.nodes.now c.args.id c.last_of-last.result, nested_one c.args.level.source.nodes.now c.args.id c.last_of-last.result)

pub write_for-returns-in_err-write_step-clause-cost : goal.write_for-returns-in_err-write_step-clause-cost
write_for-returns-in_err-write_step-clause-cost g t c = omega (arith, c.tick.ensures, c.test_of-test.ensures.cost, c.open.ensures.cost, c.write_start.ensures.cost, c.test_of-test.ensures.nodes, c.begin.ensures.cost, c.write_child.ensures.cost, c.write_step.ensures.cost, parts_but c.args.level.source.nodes.now c.args.id c.last_of-last.result, nested_one c.args.level.source.nodes.now c.args.id c.last_of-last.result)

pub write_if-returns-in_err-yes-clause-cost : goal.write_if-returns-in_err-yes-clause-cost
write_if-returns-in_err-yes-clause-cost g t c = omega (arith, c.tick.ensures, c.operand_at-test.ensures.few, c.begin.ensures.cost, c.write_inside.ensures.cost, nested_one c.args.level.source.nodes.now c.args.id 4)

pub write_if-returns-in_err-no-clause-cost : goal.write_if-returns-in_err-no-clause-cost
write_if-returns-in_err-no-clause-cost g t c = omega (arith, c.tick.ensures, c.operand_at-test.ensures.few, c.begin.ensures.cost, c.write_inside.ensures.cost, c.write_inside-2.ensures.cost, nested_two c.args.level.source.nodes.now c.args.id 4 6 (omega arith))

pub write_while-returns-in_err-turn-clause-cost : goal.write_while-returns-in_err-turn-clause-cost
write_while-returns-in_err-turn-clause-cost g t c = omega (arith, c.tick.ensures, c.operand_at-test.ensures.few, c.begin.ensures.cost, c.write_inside.ensures.cost, nested_one c.args.level.source.nodes.now c.args.id 4)
