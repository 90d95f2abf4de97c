-- What is found of an item that was reached, and of which processes something is kept then.
use Rattle.std.specs.Prelude.{IfErr}
use Rattle.std.proofs.Common.{◌≡◌, ℕ, ◌+◌, ◌<◌, true, List, ◌∷◌, Option, Some, None, Result, Ok, Err, ap, sym, ◌∙◌, subst}
use Rattle.ppd_flow.specs.Far.{far_in}
use Rattle.ppd_model.specs.declared.flow_error.FlowError.{FlowError}
use Rattle.ppd_model.specs.declared.flow_error.FlowError.TheVariants.{NoEvent}
use Rattle.ppd_flow_past.specs.declared.past.Past.{Past}
use Rattle.ppd_model.specs.declared.flow.FlowEdge.{FlowEdge}
use Rattle.ppd_model.specs.declared.flow.Item.{Item}
use Rattle.ppd_slice_search.specs.declared.reached.ItemAt.{ItemAt}
use Rattle.ppd_slice_search.specs.declared.reached.Reached.{Reached}
use Rattle.ppd_slice_search.specs.Reach.{item_of, places_of}
use Rattle.ppd_slice.specs.Asked.{AreKeptAmong, AreKeptFor, IsAsked}
use Rattle.ppd_slice_search.specs.Searched.{with_all_found}
use Rattle.ppd_slice.specs.Slices.{IsAnsweredFor, IsNoItem, IsUnfound, flow_of, has_process, origins_in}
use Rattle.ppd_slice.proofs.Among.{among_none, among_some}
use Rattle.ppd_slice.proofs.Flows.{answered_none, answered_some, origins_none, origins_some, unfound, unfound_none}

abbrev Kept : Type 0
Kept = List (List (List Item))

module _ (past : Past) (r : Reached) (a : ItemAt) (same : a ≡ item_of r) where
  asked_here : (res : Result (Option (List FlowEdge)) FlowError) → IsAsked past a res → IsAsked past (item_of r) res
  asked_here res f = subst (λ (b : ItemAt). IsAsked past b res) same f

  -- its edges were found
  module _ (o : Option (List FlowEdge)) (es : List FlowEdge) (some : o ≡ Some es) (f : IsAsked past a (Ok o)) where
    flow_here : flow_of past (item_of r) ≡ Ok es
    flow_here = subst (λ (x : Option (List FlowEdge)). IsAsked past (item_of r) (Ok x)) some (asked_here (Ok o) f)

    pub answered_edges : IsAnsweredFor past r
    answered_edges = answered_some past r es flow_here

    pub found_origins : (found new : List Reached) (d : ℕ) → d ≡ r.depth + 1 → new ≡ with_all_found found (places_of es) d
        → new ≡ with_all_found found (origins_in past (item_of r)) (r.depth + 1)
    found_origins found new d deep is =
        is ∙ ap (λ (xs : List ItemAt). with_all_found found xs d) (sym (origins_some past r es flow_here))
        ∙ ap (with_all_found found (origins_in past (item_of r))) deep

    pub found_among : (found new : List Reached) (old kept : Kept) (d : ℕ) → new ≡ with_all_found found (places_of es) d
        → AreKeptFor (a.process ∷ far_in past a.process a.interval a.item) old kept → has_process found r.process ≡ true
        → AreKeptAmong found old → AreKeptAmong new kept
    found_among found new old kept d is only own among =
        subst (λ (rs : List Reached). AreKeptAmong rs kept) (sym is)
        (among_some past (item_of r) found old kept
        (subst (λ (b : ItemAt). AreKeptFor (b.process ∷ far_in past b.process b.interval b.item) old kept) same only)
        own among es d flow_here)

  -- or it is not there
  module _ (o : Option (List FlowEdge)) (none : o ≡ None) (f : IsAsked past a (Ok o)) where
    none_here : IsNoItem past (item_of r)
    none_here = subst (λ (x : Option (List FlowEdge)). IsAsked past (item_of r) (Ok x)) none (asked_here (Ok o) f)

    pub answered_so : 0 < r.depth → IsAnsweredFor past r
    answered_so far = answered_none past r none_here far

    pub found_none : (found : List Reached) → found ≡ with_all_found found (origins_in past (item_of r)) (r.depth + 1)
    found_none found = sym (ap (λ (xs : List ItemAt). with_all_found found xs (r.depth + 1)) (origins_none past r none_here))

    pub none_among : (found : List Reached) (old kept : Kept)
        → AreKeptFor (a.process ∷ far_in past a.process a.interval a.item) old kept → has_process found r.process ≡ true
        → AreKeptAmong found old → AreKeptAmong found kept
    none_among found old kept only own among =
        among_none past (item_of r) found old kept
        (subst (λ (b : ItemAt). AreKeptFor (b.process ∷ far_in past b.process b.interval b.item) old kept) same only)
        own among none_here

    pub none_unfound : {A : Type 0} (res : Result A FlowError) → IfErr res (λ e. (e ≡ NoEvent) × (r.depth ≡ 0))
        → IfErr res (IsUnfound past r)
    none_unfound (Ok x) h = tt
    none_unfound (Err e) h = subst (IsUnfound past r) (sym h.0) (unfound_none past r none_here h.1)

  pub unfound_so : (e : FlowError) → IsAsked past a (Err e) → IsUnfound past r e
  unfound_so e f = unfound past r e (asked_here (Err e) f)
