-- The edges of an item, once the items of its interval are there.
use Rattle.std.proofs.Common.{◌≡◌, ℕ, zero, suc, ◌+◌, ◌<◌, ◌≤◌, arith, get_or, List, [], ◌∷◌, length, Option, Some, None, Result, Ok, Err, refl, ap, sym, ◌∙◌, subst}
use Rattle.std.specs.Prelude.{slice_get}
use Rattle.std.proofs.lemmas.Option.{slice_get_past}
use Rattle.ppd_model.specs.declared.flow.FlowEdge.{FlowEdge}
use Rattle.ppd_model.specs.declared.flow.Item.{Item}
use Rattle.ppd_model.specs.declared.flow_error.FlowError.{FlowError}
use Rattle.ppd_model.specs.declared.flow_error.FlowError.TheVariants.{Diverged, NoEvent, Sets, Memory}
use Rattle.ppd_flow_past.specs.declared.past.Past.{Past}
use Rattle.ppd_flow_past.specs.ByReplays.{AreReplayed, IsFoundBy, steps_to_replay}
use Rattle.ppd_flow_past.specs.SeenBy.{items_in}
use Rattle.ppd_flow_past.proofs.Found.{found_err, found_given, found_then}
use Rattle.ppd_flow_local.specs.Asked.{IsAsked}
use Rattle.ppd_graph.specs.Found.{edges_if, item_edges}
use Rattle.ppd_graph.specs.Seen.{Seen}
use Rattle.ppd_graph.specs.Shared.{seen_at}
use Rattle.ppd_flow_shared.specs.SharedCells.{answer_of, seens_in}
use Rattle.ppd_flow.specs.Answers.{IsEdges, answer_if}
use Rattle.ppd_flow.proofs.Seens.{same_seen}

-- the item with a number that is there
there_is : (ts : List Item) (i : ℕ) (t : Item) → i < length ts → t ≡ get_or ts i t → slice_get ts i ≡ Some t
there_is [] i t h e = absurd (omega (arith, h))
there_is (x ∷ ts) zero t h e = ap (λ (z : Item). Some z) (sym e)
there_is (x ∷ ts) (suc i) t h e = there_is ts i t (omega (arith, h)) e

-- the same in a list that is this one
pub item_there : (ts us : List Item) (i : ℕ) (t : Item) → ts ≡ us → i < length ts → t ≡ get_or ts i t → slice_get us i ≡ Some t
item_there ts us i t same h e = ap (λ (z : List Item). slice_get z i) (sym same) ∙ there_is ts i t h e

-- the same where its number is known of this one
pub asked_there : (ts us : List Item) (i : ℕ) (t : Item) → ts ≡ us → i < length us → t ≡ get_or ts i t → slice_get us i ≡ Some t
asked_there ts us i t same h e = item_there ts us i t same (subst (λ (z : List Item). i < length z) (sym same) h) e

pub none_there : (ts us : List Item) (i : ℕ) → ts ≡ us → length ts ≤ i → length us ≤ i
none_there ts us i same h = subst (λ (z : List Item). length z ≤ i) same h

abbrev items_or : List Item → Result (List Item) FlowError → List Item
items_or d (Ok ts) = ts
items_or d (Err e) = d

module _ (past : Past) (p k j n m : ℕ) where
  abbrev replays_of : Option Item → List (ℕ × ℕ)
  replays_of o = (edges_if past.program.now past.plan.now past.logs.now (seens_in past) p k j o).replays

  abbrev answer_for : Option Item → Result (List FlowEdge) FlowError
  answer_for o = answer_if (edges_if past.program.now past.plan.now past.logs.now (seens_in past) p k j o).found

  abbrev there : Option Item
  there = slice_get (get_or (seen_at (seens_in past) p).items k []) j

  moved : (o : Option Item) (r : Result (List FlowEdge) FlowError) (l : ℕ) → there ≡ o
      → IsFoundBy past ((p, k) ∷ replays_of o) (answer_for o) n l r → IsEdges past p k j n l r
  moved o r l e f = subst (λ (z : Option Item). IsFoundBy past ((p, k) ∷ replays_of z) (answer_for z) n l r) (sym e) f

  module _ (items : List Item) (got : IsFoundBy past ((p, k) ∷ []) (Ok (items_in past p k)) n m (Ok items)) where
    pub items_are : get_or (seen_at (seens_in past) p).items k [] ≡ items
    items_are =
        ap (λ (x : Seen). get_or x.items k []) (sym (same_seen past p))
        ∙ ap (λ (r : Result (List Item) FlowError). items_or (items_in past p k) r) got.1

    pub no_item : length items ≤ j → IsEdges past p k j n m (Err NoEvent)
    no_item h =
        moved None (Err NoEvent) m (ap (λ (ts : List Item). slice_get ts j) items_are ∙ slice_get_past items j h) (got.0, refl)

    pub an_item : (t : Item) (l : ℕ) (r : Result (List FlowEdge) FlowError) → slice_get items j ≡ Some t
        → IsFoundBy past (replays_of (Some t)) (answer_of (item_edges past.program.now past.plan.now past.logs.now (seens_in past) p k j t).found) m l r
        → IsEdges past p k j n l r
    an_item t l r e f =
        moved (Some t) r l (ap (λ (ts : List Item). slice_get ts j) items_are ∙ e)
        (found_then past ((p, k) ∷ []) (replays_of (Some t)) (Ok (items_in past p k)) (answer_for (Some t)) items n m l r got f)

  -- the items are not answered
  pub asked_fails : (e : FlowError) → IsAsked past p k j n m (Err e) → IsEdges past p k j n m (Err e)
  asked_fails NoEvent f = no_item (items_in past p k) f.0 f.1
  asked_fails (Diverged q x) f = found_err past ((p, k) ∷ []) (replays_of there) (items_in past p k) (answer_for there) n m (Diverged q x) f
  asked_fails (Sets q x c) f = found_err past ((p, k) ∷ []) (replays_of there) (items_in past p k) (answer_for there) n m (Sets q x c) f
  asked_fails Memory f = tt

  -- ---- the items are given

  module _ (items : List Item) (given : AreReplayed past p k items) where
    given_are : get_or (seen_at (seens_in past) p).items k [] ≡ items
    given_are = ap (λ (x : Seen). get_or x.items k []) (sym (same_seen past p)) ∙ sym given.1

    pub no_item_given : length items ≤ j → IsEdges past p k j n (n + steps_to_replay past p k) (Err NoEvent)
    no_item_given h =
        moved None (Err NoEvent) (n + steps_to_replay past p k)
        (ap (λ (ts : List Item). slice_get ts j) given_are ∙ slice_get_past items j h)
        (found_given past p k [] (answer_for None) n n (Err NoEvent) given.0 (refl, refl))

    pub an_item_given : (t : Item) (l : ℕ) (r : Result (List FlowEdge) FlowError) → slice_get items j ≡ Some t
        → IsFoundBy past (replays_of (Some t)) (answer_of (item_edges past.program.now past.plan.now past.logs.now (seens_in past) p k j t).found) n l r
        → IsEdges past p k j n (l + steps_to_replay past p k) r
    an_item_given t l r e f =
        moved (Some t) r (l + steps_to_replay past p k) (ap (λ (ts : List Item). slice_get ts j) given_are ∙ e)
        (found_given past p k (replays_of (Some t)) (answer_for (Some t)) n l r given.0 f)
