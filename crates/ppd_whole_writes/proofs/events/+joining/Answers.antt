use Rattle.std.proofs.Common.{◌≡◌, ◌∙◌, ◌+◌, ◌-◌, ◌<◌, ◌++◌, List, [], ◌∷◌, map, length, take, get_or, ap, ap₂, sym, arith, ℕ}
use Rattle.std.proofs.lemmas.Grind.{flat_map-append}
use Rattle.std.proofs.lemmas.List.{append_assoc, append-nil, take_more, take_all}
use Rattle.ppd_model.specs.declared.flow.Item.{Item}
use Rattle.ppd_sem.specs.declared.event.Event.{Event}
use Rattle.law_flow.specs.Joined.{events_of_item, events_of_items, joined}
use Rattle.ppd_graph.specs.Seen.{Seen}
use Rattle.ppd_whole_writes.proofs.Joining.{joined_at}
use Rattle.ppd_whole_writes.proofs.events.+joining.Goals as goal

pub add_interval-loop-item-preserved : goal.add_interval-loop-item-preserved
add_interval-loop-item-preserved t c = λ x same.
    let items : List Item = c.items_of-items.result.now in
    let i : ℕ = c.loop-item.item-index in
    let f : Item → List Event = events_of_item (joined (c.args.depth - 1) x) in
    let old : List Event = map (λ e. e.now) c.args.events.now.items in
    let now : List Event = events_of_items (joined (c.args.depth - 1) x) (take i items) in
    let next : take (i + 1) items ≡ take i items ++ c.item-item.result ∷ [] =
    take_more items i c.item-item.result c.loop-item-test.true ∙ ap (λ (y : Item). take i items ++ y ∷ []) (sym c.item-item.is) in
    let last : f c.item-item.result ++ [] ≡ f c.item-item.result = append-nil (f c.item-item.result) in
    let split : events_of_items (joined (c.args.depth - 1) x) (take (i + 1) items) ≡ now ++ f c.item-item.result =
    ap (events_of_items (joined (c.args.depth - 1) x)) next ∙ flat_map-append f (take i items) (c.item-item.result ∷ []) ∙ ap (λ (l : List Event). now ++ l) last in
    c.in_ok-add_item.ensures x same
    ∙ ap (λ (l : List Event). l ++ f c.item-item.result) (c.loop-item.invariant x same)
    ∙ append_assoc old now (f c.item-item.result)
    ∙ ap (λ (l : List Event). old ++ l) (sym split)

pub add_interval-returns : goal.add_interval-returns
add_interval-returns t c = λ x same.
    let items : List Item = c.items_of-items.result.now in
    let old : List Event = map (λ e. e.now) c.args.events.now.items in
    let all : take c.loop-item.item-index items ≡ items = take_all c.loop-item.item-index items c.loop-item-test.false in
    let there : items ≡ get_or x.items c.args.interval [] = c.items_of-items.ensures ∙ ap (λ (l : List (List Item)). get_or l c.args.interval []) (sym same) in
    c.loop-item.invariant x same
    ∙ ap (λ (l : List Item). old ++ events_of_items (joined (c.args.depth - 1) x) l) (all ∙ there)
    ∙ ap (λ (l : List Event). old ++ l) (sym (joined_at c.args.depth x c.args.interval c.if-depth-eq0.false))
