use Rattle.std.proofs.Common.{◌≡◌, ◌∙◌, List, [], ◌∷◌, Ok, refl, subst, sym, take}
use Rattle.ppd_model.specs.declared.flow.Item.{Item}
use Rattle.ppd_flow_tables.specs.ByReplays.{IsFoundBy}
use Rattle.ppd_flow_tables.specs.SeenBy.{items_in}
use Rattle.ppd_graph.specs.Seen.{place_of}
use Rattle.ppd_flow_shared.proofs.Steps.{before_ok, items_are}
use Rattle.ppd_flow_shared.proofs.outward.over_before.Goals as goal

pub returns : goal.returns
returns g c =
    let search = c.args.search.now in
    let items = c.as_slice-items.result.now in
    let given : items ≡ items_in search.past.now search.process c.args.outer =
    c.as_slice-items.ensures ∙ sym (items_are search.past.now search.process search.cell c.args.outer c.in_ok-items.items
    c.args.steps.now c.interval_items.new.steps c.in_ok-items.ensures) in
    let at : c.place_of-at.result ≡ place_of c.args.inner items =
    c.place_of-at.ensures search.past.now c.requires.tables_are given in
    before_ok search.past.now search.process search.cell c.count_of-depth.result c.args.outer c.args.inner
    c.place_of-at.result items (take c.place_of-at.result items) c.args.steps.now c.interval_items.new.steps
    c.over_items.new.steps c.over_items.result c.count_of-depth.ensures at refl
    (subst (λ (xs : List Item). IsFoundBy search.past.now ((search.process, c.args.outer) ∷ [])
    (Ok (items_in search.past.now search.process c.args.outer)) c.args.steps.now c.interval_items.new.steps (Ok xs))
    (sym c.as_slice-items.ensures) c.in_ok-items.ensures) c.over_items.ensures
