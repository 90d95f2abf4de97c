use Rattle.std.proofs.Common.{◌≡◌, ◌+◌, ◌-◌, ◌<◌, ◌∙◌, ℕ, List, [], ◌∷◌, Ok, Some, arith, false, true, length, refl, subst, sym}
use Rattle.std.specs.Prelude.{slice_get}
use Rattle.std.proofs.lemmas.Option.{slice_get_read}
use Rattle.std.proofs.lemmas.Result.{err_from_is_err_and}
use Rattle.ppd_model.specs.declared.flow.Item.{Item}
use Rattle.ppd_flow_tables.specs.ByReplays.{IsFoundBy}
use Rattle.ppd_flow_tables.specs.SeenBy.{items_in}
use Rattle.ppd_flow_tables.specs.Stops.{ArePassed}
use Rattle.ppd_graph.specs.Walk.{back_from}
use Rattle.ppd_flow_shared.specs.Items.{is_passed, seen_for}
use Rattle.ppd_flow_shared.proofs.Over.{over}
use Rattle.ppd_flow_shared.proofs.Steps.{item_ended, item_failed, item_passed, items_jump, items_passed, whole_err, whole_ok}
use Rattle.ppd_flow_shared.proofs.inside.+walk.Goals as goal

pub over_interval-returns : goal.over_interval-returns
over_interval-returns g t c =
    let search = c.args.search.now in
    let given : IsFoundBy search.past.now ((search.process, c.args.interval) ∷ []) (Ok
    (items_in search.past.now search.process c.args.interval))
    c.args.steps.now c.interval_items.new.steps (Ok c.as_slice-items.result.now) =
    subst (λ (xs : List Item). IsFoundBy search.past.now ((search.process, c.args.interval) ∷ []) (Ok
    (items_in search.past.now search.process c.args.interval))
    c.args.steps.now c.interval_items.new.steps (Ok xs)) (sym c.as_slice-items.ensures) c.in_ok-items.ensures in
    whole_ok search.past.now search.process search.cell c.args.depth c.args.interval c.as_slice-items.result.now
    c.args.steps.now c.interval_items.new.steps c.over_items.new.steps c.over_items.result c.if-depth-eq0.false given
    c.over_items.ensures

pub over_interval-returns-in_err-items : goal.over_interval-returns-in_err-items
over_interval-returns-in_err-items g t c =
    let search = c.args.search.now in
    let e = err_from_is_err_and c.from_residual.result c.from_residual.ensures.1 in
    rw (e.1, e.2) (whole_err search.past.now search.process search.cell c.args.depth c.args.interval
    c.args.steps.now c.interval_items.new.steps c.in_err-items.field-0.0 c.if-depth-eq0.false c.in_err-items.ensures)

pub over_items-returns-in_err-walked : goal.over_items-returns-in_err-walked
over_items-returns-in_err-walked g t c =
    let search = c.args.search.now in
    let items = c.args.items.now in
    let at : ℕ = c.in-Some.at in
    let passed : ArePassed search.cell items (at + 1) c.loop-at.left =
    c.in-Some.ensures search.past.now c.requires.past.tables_are c.requires.items in
    let below : at < length items = omega (arith, passed.within) in
    let there : slice_get items at ≡ Some c.index-items-at.result =
    slice_get_read items (length items) at c.index-items-at.result refl below c.index-items-at.is in
    let leads = items_jump search.past.now search.process search.cell c.args.depth c.args.interval items
    (over (seen_for search) c.args.depth search.cell c.args.interval (back_from c.args.place items))
    c.args.steps.now (at + 1) c.loop-at.left c.loop-at.steps passed c.loop-at.invariant in
    let e = err_from_is_err_and c.from_residual.result c.from_residual.ensures.1 in
    rw (e.1, e.2) (item_failed search.past.now search.process search.cell c.args.depth c.args.interval items
    (over (seen_for search) c.args.depth search.cell c.args.interval (back_from c.args.place items))
    c.args.steps.now at c.loop-at.steps c.index-items-at.result leads there
    c.over_item.new.steps c.in_err-walked.field-0.0 c.in_err-walked.ensures)

pub over_items-returns-then-not-is_passed : goal.over_items-returns-then-not-is_passed
over_items-returns-then-not-is_passed g t c =
    let search = c.args.search.now in
    let items = c.args.items.now in
    let at : ℕ = c.in-Some.at in
    let passed : ArePassed search.cell items (at + 1) c.loop-at.left =
    c.in-Some.ensures search.past.now c.requires.past.tables_are c.requires.items in
    let below : at < length items = omega (arith, passed.within) in
    let there : slice_get items at ≡ Some c.index-items-at.result =
    slice_get_read items (length items) at c.index-items-at.result refl below c.index-items-at.is in
    let leads = items_jump search.past.now search.process search.cell c.args.depth c.args.interval items
    (over (seen_for search) c.args.depth search.cell c.args.interval (back_from c.args.place items))
    c.args.steps.now (at + 1) c.loop-at.left c.loop-at.steps passed c.loop-at.invariant in
    let not_passed : is_passed c.in_ok-walked.walked ≡ false = sym c.is_passed.ensures ∙ c.if-not-is_passed.true in
    item_ended search.past.now search.process search.cell c.args.depth c.args.interval items
    (over (seen_for search) c.args.depth search.cell c.args.interval (back_from c.args.place items))
    c.args.steps.now at c.loop-at.steps c.index-items-at.result leads there
    c.over_item.new.steps c.in_ok-walked.walked not_passed c.in_ok-walked.ensures

pub over_items-loop-at-preserved : goal.over_items-loop-at-preserved
over_items-loop-at-preserved g t c =
    let search = c.args.search.now in
    let items = c.args.items.now in
    let at : ℕ = c.in-Some.at in
    let passed : ArePassed search.cell items (at + 1) c.loop-at.left =
    c.in-Some.ensures search.past.now c.requires.past.tables_are c.requires.items in
    let below : at < length items = omega (arith, passed.within) in
    let there : slice_get items at ≡ Some c.index-items-at.result =
    slice_get_read items (length items) at c.index-items-at.result refl below c.index-items-at.is in
    let leads = items_jump search.past.now search.process search.cell c.args.depth c.args.interval items
    (over (seen_for search) c.args.depth search.cell c.args.interval (back_from c.args.place items))
    c.args.steps.now (at + 1) c.loop-at.left c.loop-at.steps passed c.loop-at.invariant in
    let so : is_passed c.in_ok-walked.walked ≡ true = sym c.is_passed.ensures ∙ c.if-not-is_passed.false in
    item_passed search.past.now search.process search.cell c.args.depth c.args.interval items
    (over (seen_for search) c.args.depth search.cell c.args.interval (back_from c.args.place items))
    c.args.steps.now at c.loop-at.steps c.index-items-at.result leads there
    c.over_item.new.steps c.in_ok-walked.walked so c.in_ok-walked.ensures

pub over_items-returns : goal.over_items-returns
over_items-returns g t c =
    let search = c.args.search.now in
    let items = c.args.items.now in
    let passed : ArePassed search.cell items 0 c.loop-at.left =
    c.in_default.ensures search.past.now c.requires.past.tables_are c.requires.items in
    items_passed search.past.now search.process search.cell c.args.depth c.args.interval items
    (over (seen_for search) c.args.depth search.cell c.args.interval (back_from c.args.place items)) c.args.steps.now
    c.loop-at.steps
    (items_jump search.past.now search.process search.cell c.args.depth c.args.interval items
    (over (seen_for search) c.args.depth search.cell c.args.interval (back_from c.args.place items)) c.args.steps.now 0
    c.loop-at.left c.loop-at.steps passed c.loop-at.invariant)
