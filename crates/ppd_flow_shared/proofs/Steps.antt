-- The steps of a walk, by what the replays on its way answer.
use Rattle.ppd_graph.specs.Looked.{Looked}
use Rattle.ppd_graph.specs.Seen.{Seen, place_of}
use Rattle.ppd_graph.specs.Shared.{in_process, of_process}
use Rattle.ppd_graph.specs.Walk.{at_item, back, back_from, backwards, onward, walk}
use Rattle.ppd_graph.specs.declared.walked.Walked.{Walked}
use Rattle.ppd_graph.specs.declared.walked.Walked.TheVariants.{Passed}
use Rattle.ppd_flow_shared.proofs.Leads.{Leads, lead_ended, lead_failed, lead_on}
use Rattle.ppd_flow_shared.proofs.Over.{one_more, out_parts, over, walk_parts}
use Rattle.ppd_flow_shared.specs.Items.{before_inner, is_passed, out_of}
use Rattle.ppd_flow_shared.specs.SharedCells.{IsSought, IsWalked}
use Rattle.ppd_flow_tables.proofs.Found.{found_err, found_none, found_then}
use Rattle.ppd_flow_tables.proofs.Parents.{round_goes_on, round_is_before}
use Rattle.ppd_flow_tables.specs.ByReplays.{IsFoundBy}
use Rattle.ppd_flow_tables.specs.FlowError.{FlowError}
use Rattle.ppd_flow_tables.specs.Past.{Past}
use Rattle.ppd_flow_tables.specs.SeenBy.{items_in, seen_in}
use Rattle.ppd_flow_tables.specs.Stops.{ArePassed}
use Rattle.ppd_model.specs.declared.flow.Item.{Item}
use Rattle.std.proofs.Common.{Err, List, None, Ok, Result, Some, [], ap, arith, false, length, subst, suc, sym, take, true, ℕ, ◌+◌, ◌-◌, ◌<◌, ◌∙◌, ◌∷◌, ◌≡◌}
use Rattle.std.proofs.lemmas.List.{take_all}
use Rattle.std.specs.Option.{option_map_or}
use Rattle.std.specs.Prelude.{get_or, slice_get}

abbrev items_or : Result (List Item) FlowError → List Item
items_or (Ok xs) = xs
items_or (Err e) = []

module _ (past : Past) (p c : ℕ) where
  abbrev x : Seen
  x = seen_in past p

  pub items_are : (m : ℕ) (items : List Item) (n o : ℕ)
      → IsFoundBy past ((p, m) ∷ []) (Ok (items_in past p m)) n o (Ok items)
      → get_or x.items m [] ≡ items
  items_are m items n o f = ap items_or f.1

  -- over these items of interval k
  abbrev Over : (depth k : ℕ) → List (ℕ × Item) → ℕ → ℕ → Result Walked FlowError → Type 0
  Over depth k ts n o r = IsSought past (in_process p (over x depth c k ts)) n o r

  -- ---- a whole interval

  whole_next : (d m : ℕ) (items : List Item) (n o q : ℕ) (r : Result Walked FlowError)
      → IsFoundBy past ((p, m) ∷ []) (Ok (items_in past p m)) n o (Ok items)
      → Over d m (backwards 0 items []) o q r
      → IsSought past (in_process p (back (suc d) x c m)) n q r
  whole_next d m items n o q r f g =
      found_then past ((p, m) ∷ []) (of_process p (over x d c m (backwards 0 (get_or x.items m []) [])).replays)
      (Ok (items_in past p m)) (Ok (back (suc d) x c m).found) items n o q r f
      (subst (λ ts. Over d m (backwards 0 ts []) o q r) (sym (items_are m items n o f)) g)

  pub whole_ok : (depth m : ℕ) (items : List Item) (n o q : ℕ) (r : Result Walked FlowError) → (depth ≡ 0 → ⊥)
      → IsFoundBy past ((p, m) ∷ []) (Ok (items_in past p m)) n o (Ok items)
      → IsSought past (in_process p (over x (depth - 1) c m (back_from (length items) items))) o q r
      → IsSought past (in_process p (back depth x c m)) n q r
  whole_ok depth m items n o q r some f g =
      let is : depth ≡ suc (depth - 1) = omega (arith, some) in
      subst (λ d. IsSought past (in_process p (back d x c m)) n q r) (sym is)
      (whole_next (depth - 1) m items n o q r f
      (subst (λ ts. Over (depth - 1) m (backwards 0 ts []) o q r) (take_all (length items) items (omega arith)) g))

  pub whole_err : (depth m n o : ℕ) (e : FlowError) → (depth ≡ 0 → ⊥)
      → IsFoundBy {A = List Item} past ((p, m) ∷ []) (Ok (items_in past p m)) n o (Err e)
      → IsSought past (in_process p (back depth x c m)) n o (Err e)
  whole_err depth m n o e some f =
      let is : depth ≡ suc (depth - 1) = omega (arith, some) in
      subst (λ d. IsSought past (in_process p (back d x c m)) n o (Err e)) (sym is)
      (found_err past ((p, m) ∷ [])
      (of_process p (over x (depth - 1) c m (backwards 0 (get_or x.items m []) [])).replays)
      (items_in past p m) (Ok (back (suc (depth - 1)) x c m).found) n o e f)

  -- ---- the items of an interval

  module _ (depth k : ℕ) (items : List Item) (whole : Looked ℕ Walked) (before : ℕ) where
    abbrev Left : ℕ → ℕ → Type 0
    Left left s = Leads past p whole before (over x depth c k (back_from left items)) s

    -- items that are passed may be left out
    pub items_jump : (i j s : ℕ) → ArePassed c items i j → Left j s → Left i s
    items_jump i j s passed leads after r g =
        leads after r
        (subst (λ (w : Looked ℕ Walked). IsSought past (in_process p w) s after r)
        (sym (passed.walked (back depth x c) k)) g)

    module _ (i s : ℕ) (t : Item) (leads : Left (i + 1) s) (there : slice_get items i ≡ Some t) where
      parted : Leads past p whole before
          (onward (at_item (back depth x c) c k i t) (over x depth c k (back_from i items))) s
      parted after r g =
          leads after r
          (subst (λ (w : Looked ℕ Walked). IsSought past (in_process p w) s after r)
          (sym (ap (over x depth c k) (one_more items i t there))) g)

      pub item_failed : (m : ℕ) (e : FlowError)
          → IsSought past (in_process p (at_item (back depth x c) c k i t)) s m (Err e)
          → IsSought past (in_process p whole) before m (Err e)
      item_failed m e f =
          lead_failed past p (at_item (back depth x c) c k i t) (over x depth c k (back_from i items)) s m whole before
          parted e f

      pub item_ended : (m : ℕ) (u : Walked) → is_passed u ≡ false
          → IsSought past (in_process p (at_item (back depth x c) c k i t)) s m (Ok u)
          → IsSought past (in_process p whole) before m (Ok u)
      item_ended m u not f =
          lead_ended past p (at_item (back depth x c) c k i t) (over x depth c k (back_from i items)) s m whole before
          parted u not f

      pub item_passed : (m : ℕ) (u : Walked) → is_passed u ≡ true
          → IsSought past (in_process p (at_item (back depth x c) c k i t)) s m (Ok u)
          → Left i m
      item_passed m u so f =
          lead_on past p (at_item (back depth x c) c k i t) (over x depth c k (back_from i items)) s m whole before parted
          u so f

    -- none is left
    pub items_passed : (s : ℕ) → Left 0 s → IsSought past (in_process p whole) before s (Ok Passed)
    items_passed s leads = leads s (Ok Passed) (found_none past Passed s)

  -- ---- outward

  pub before_ok : (depth m k at : ℕ) (items first : List Item) (n o q : ℕ) (r : Result Walked FlowError)
      → depth ≡ length x.items → at ≡ place_of k items → first ≡ take at items
      → IsFoundBy past ((p, m) ∷ []) (Ok (items_in past p m)) n o (Ok items)
      → IsSought past (in_process p (over x depth c m (backwards 0 first []))) o q r
      → IsSought past (in_process p (before_inner x c m k)) n q r
  before_ok depth m k at items first n o q r deep place front f g =
      let is : get_or x.items m [] ≡ items = items_are m items n o f in
      let firsts : first ≡ take (place_of k (get_or x.items m [])) (get_or x.items m []) =
      front ∙ ap (λ j. take j items) place ∙ ap (λ ts. take (place_of k ts) ts) (sym is) in
      found_then past ((p, m) ∷ []) (of_process p (over x (length x.items) c m (back_from (place_of k
      (get_or x.items m [])) (get_or x.items m []))).replays)
      (Ok (items_in past p m)) (Ok (before_inner x c m k).found) items n o q r f
      (subst (λ ts. Over (length x.items) m (backwards 0 ts []) o q r) firsts
      (subst (λ d. Over d m (backwards 0 first []) o q r) deep g))

  pub outer_below : (k m : ℕ) → Some m ≡ slice_get (get_or x.rounds k []) 0 → m < k
  outer_below k m e = round_is_before (get_or past.cut.now.lists p []) k m (sym e)

  round_next : (k m : ℕ) → Some m ≡ slice_get (get_or x.rounds k []) 0 → get_or x.rounds k [] ≡ m ∷ get_or x.rounds m []
  round_next k m e = round_goes_on (get_or past.cut.now.lists p []) k ∙ ap (λ o. option_map_or (λ m. m ∷ get_or x.rounds m []) o []) (sym e)

  round_none : (k : ℕ) → None ≡ slice_get (get_or x.rounds k []) 0 → get_or x.rounds k [] ≡ []
  round_none k e = round_goes_on (get_or past.cut.now.lists p []) k ∙ ap (λ o. option_map_or (λ m. m ∷ get_or x.rounds m []) o []) (sym e)

  module _ (whole : Looked ℕ Walked) (before : ℕ) where
    abbrev Out : ℕ → ℕ → Type 0
    Out k s = Leads past p whole before (out_of x c k (get_or x.rounds k [])) s

    module _ (k s m : ℕ) (leads : Out k s) (outer : Some m ≡ slice_get (get_or x.rounds k []) 0) where
      abbrev more : Looked ℕ Walked
      more = out_of x c m (get_or x.rounds m [])

      out_parted : Leads past p whole before (onward (before_inner x c m k) (out_of x c m (get_or x.rounds m []))) s
      out_parted after r g =
          leads after r
          (subst (λ (w : Looked ℕ Walked). IsSought past (in_process p w) s after r)
          (sym (ap (out_of x c k) (round_next k m outer) ∙ out_parts x c k m (get_or x.rounds m []))) g)

      pub out_failed : (o : ℕ) (e : FlowError)
          → IsSought past (in_process p (before_inner x c m k)) s o (Err e)
          → IsSought past (in_process p whole) before o (Err e)
      out_failed o e f = lead_failed past p (before_inner x c m k) more s o whole before out_parted e f

      pub out_ended : (o : ℕ) (u : Walked) → is_passed u ≡ false
          → IsSought past (in_process p (before_inner x c m k)) s o (Ok u)
          → IsSought past (in_process p whole) before o (Ok u)
      out_ended o u not f = lead_ended past p (before_inner x c m k) more s o whole before out_parted u not f

      pub out_passed : (o : ℕ) (u : Walked) → is_passed u ≡ true
          → IsSought past (in_process p (before_inner x c m k)) s o (Ok u)
          → Out m o
      out_passed o u so f = lead_on past p (before_inner x c m k) more s o whole before out_parted u so f

    pub out_done : (k s : ℕ) → None ≡ slice_get (get_or x.rounds k []) 0 → Out k s
        → IsSought past (in_process p whole) before s (Ok Passed)
    out_done k s none leads =
        (subst (λ ks. Leads past p whole before (out_of x c k ks) s) (round_none k none) leads) s (Ok Passed)
        (found_none past Passed s)

  -- ---- a walk from a place

  module _ (k j depth : ℕ) (items first : List Item) (deep : depth ≡ length x.items) (is : items
      ≡ get_or x.items k []) (front : first ≡ take j items) (n : ℕ) where
    abbrev here : Looked ℕ Walked
    here = over x (length x.items) c k (back_from j (get_or x.items k []))

    abbrev farther : Looked ℕ Walked
    farther = out_of x c k (get_or x.rounds k [])

    firsts : first ≡ take j (get_or x.items k [])
    firsts = front ∙ ap (take j) is

    at_first : (o : ℕ) (r : Result Walked FlowError) → Over depth k (backwards 0 first []) n o r
        → IsSought past (in_process p here) n o r
    at_first o r f =
        subst (λ ts. Over (length x.items) k (backwards 0 ts []) n o r) firsts
        (subst (λ d. Over d k (backwards 0 first []) n o r) deep f)

    all_of_it : Leads past p (walk x c k j) n (onward here farther) n
    all_of_it after r g =
        subst (λ (w : Looked ℕ Walked). IsSought past (in_process p w) n after r)
        (sym (walk_parts x c k j (get_or x.rounds k []))) g

    pub walk_failed : (o : ℕ) (e : FlowError)
        → IsSought past (in_process p (over x depth c k (backwards 0 first []))) n o (Err e)
        → IsWalked past p c k j n o (Err e)
    walk_failed o e f = lead_failed past p here farther n o (walk x c k j) n all_of_it e (at_first o (Err e) f)

    pub walk_ended : (o : ℕ) (u : Walked) → is_passed u ≡ false
        → IsSought past (in_process p (over x depth c k (backwards 0 first []))) n o (Ok u)
        → IsWalked past p c k j n o (Ok u)
    walk_ended o u not f = lead_ended past p here farther n o (walk x c k j) n all_of_it u not (at_first o (Ok u) f)

    pub walk_outward : (o q : ℕ) (u : Walked) (r : Result Walked FlowError) → is_passed u ≡ true
        → IsSought past (in_process p (over x depth c k (backwards 0 first []))) n o (Ok u)
        → IsSought past (in_process p (out_of x c k (get_or x.rounds k []))) o q r
        → IsWalked past p c k j n q r
    walk_outward o q u r so f g =
        (lead_on past p here farther n o (walk x c k j) n all_of_it u so (at_first o (Ok u) f)) q r g
