-- Whatever is kept is of processes that the slice has items of.
use Rattle.std.specs.Prelude.{slice_get, nat_eq, ◌||◌, if◌then◌else◌}
use Rattle.std.specs.List.{list_any}
use Rattle.std.proofs.Common.{◌≡◌, ℕ, zero, suc, inl, inr, Bool, true, false, true≢false, List, [], ◌∷◌, ◌++◌, Some, Ok, refl, ap, sym, ◌∙◌, subst, arith}
use Rattle.std.proofs.lemmas.Bool.{and_parts, eq-eqb}
use Rattle.std.proofs.lemmas.List.Sorted.{list_any-IsPermutation}
use Rattle.std.proofs.lemmas.Option.{none-some, same_Some}
use Rattle.ppd_flow.specs.Far.{far_in, far_of_item}
use Rattle.ppd_flow_past.specs.declared.past.Past.{Past}
use Rattle.ppd_flow.specs.SharedCells.{seens_in}
use Rattle.ppd_model.specs.declared.flow.FlowEdge.{FlowEdge}
use Rattle.ppd_model.specs.declared.flow.Item.{Item}
use Rattle.ppd_slice_search.specs.declared.reached.ItemAt.{ItemAt}
use Rattle.ppd_slice_search.specs.declared.reached.Reached.{Reached}
use Rattle.ppd_slice_search.specs.Levels.{at_depth, is_item}
use Rattle.ppd_slice_search.specs.Reach.{IsIn, item_of, places_of}
use Rattle.ppd_slice.specs.Asked.{AreKeptAmong, AreKeptFor, IsAsked}
use Rattle.ppd_slice_search.specs.Searched.{IsSortedOf, was_found, with_all_found, with_found}
use Rattle.ppd_slice.specs.Slices.{IsNoItem, has_process}
use Rattle.ppd_slice.proofs.Flows.{same_here}
use Rattle.ppd_slice.proofs.Origins.{HasOrigin, from_far}

abbrev Kept : Type 0
Kept = List (List (List Item))

-- ---- processes of lists

abbrev is_of : ℕ → Reached → Bool
is_of q r = nat_eq r.process q

any_weaker : (f g : Reached → Bool) (rs : List Reached) → ((r : Reached) → f r ≡ true → g r ≡ true)
    → list_any f rs ≡ true → list_any g rs ≡ true
any_weaker f g [] h e = e
any_weaker f g (r ∷ rs) h e = by (f r) refl (g r) refl e (any_weaker f g rs h)
  where
    by : (b : Bool) → f r ≡ b → (c : Bool) → g r ≡ c → (b || list_any f rs) ≡ true
        → (list_any f rs ≡ true → list_any g rs ≡ true) → (c || list_any g rs) ≡ true
    by b x true y t go = refl
    by true x false y t go = absurd (true≢false (sym (h r x) ∙ y))
    by false x false y t go = go t

any_front : (f : Reached → Bool) (rs ss : List Reached) → list_any f rs ≡ true → list_any f (rs ++ ss) ≡ true
any_front f [] ss e = absurd (true≢false (sym e))
any_front f (r ∷ rs) ss e = by (f r) e (any_front f rs ss)
  where
    by : (b : Bool) → (b || list_any f rs) ≡ true → (list_any f rs ≡ true → list_any f (rs ++ ss) ≡ true)
        → (b || list_any f (rs ++ ss)) ≡ true
    by true t go = refl
    by false t go = go t

any_end : (f : Reached → Bool) (rs : List Reached) (r : Reached) → f r ≡ true → list_any f (rs ++ r ∷ []) ≡ true
any_end f [] r e = ap (λ b. b || false) e
any_end f (s ∷ rs) r e = by (f s) (any_end f rs r e)
  where
    by : (b : Bool) → list_any f (rs ++ r ∷ []) ≡ true → (b || list_any f (rs ++ r ∷ [])) ≡ true
    by true t = refl
    by false t = t

pub got_process : (rs : List Reached) (n : ℕ) (r : Reached) → slice_get rs n ≡ Some r → has_process rs r.process ≡ true
got_process [] n r e = absurd (none-some r e)
got_process (s ∷ rs) zero r e =
    let same : s ≡ r = same_Some s r e in
    ap (λ b. b || has_process rs r.process) (eq-eqb s.process r.process (ap (λ (x : Reached). x.process) same))
got_process (s ∷ rs) (suc n) r e = by (is_of r.process s) (got_process rs n r e)
  where
    by : (b : Bool) → has_process rs r.process ≡ true → (b || has_process rs r.process) ≡ true
    by true t = refl
    by false t = t

-- ---- items that are found

still_one : (found : List Reached) (a : ItemAt) (d q : ℕ) → has_process found q ≡ true → has_process (with_found found a d) q ≡ true
still_one found a d q e = by (was_found found a)
  where
    by : (b : Bool) → has_process (if b then found else found ++ at_depth d a ∷ []) q ≡ true
    by true = e
    by false = any_front (is_of q) found (at_depth d a ∷ []) e

still_has : (as' : List ItemAt) (found : List Reached) (d q : ℕ) → has_process found q ≡ true
    → has_process (with_all_found found as' d) q ≡ true
still_has [] found d q e = e
still_has (a ∷ as') found d q e = still_has as' (with_found found a d) d q (still_one found a d q e)

has_one : (found : List Reached) (a : ItemAt) (d : ℕ) → has_process (with_found found a d) a.process ≡ true
has_one found a d = by (was_found found a) refl
  where
    by : (b : Bool) → was_found found a ≡ b → has_process (if b then found else found ++ at_depth d a ∷ []) a.process ≡ true
    by true e = any_weaker (λ r. is_item (item_of r) a) (is_of a.process) found (λ r t. (and_parts (nat_eq r.process a.process) _ t).0) e
    by false e = any_end (is_of a.process) found (at_depth d a) (eq-eqb a.process a.process refl)

has_found : (as' : List ItemAt) (found : List Reached) (d : ℕ) (b : ItemAt) → IsIn b as'
    → has_process (with_all_found found as' d) b.process ≡ true
has_found [] found d b m = absurd m
has_found (a ∷ as') found d b (inl e) =
    still_has as' (with_found found a d) d b.process
    (subst (λ (x : ItemAt). has_process (with_found found a d) x.process ≡ true) (sym e) (has_one found a d))
has_found (a ∷ as') found d b (inr m) = has_found as' (with_found found a d) d b m

-- ---- what is kept

-- of the first item
pub among_first : (a : ItemAt) (none found : List Reached) (kept : Kept) → AreKeptFor (a.process ∷ []) [] kept → none ≡ []
    → found ≡ with_found none a 0 → AreKeptAmong found kept
among_first a none found kept only empty is q some = elim (only q some) [
  | inl lt ↦ absurd (omega (arith, lt))
  | inr (inl e) ↦ subst (λ (rs : List Reached). has_process rs q ≡ true) (sym is)
      (subst (λ p. has_process (with_found none a 0) p ≡ true) (sym e) (has_one none a 0))
  | inr (inr m) ↦ absurd m
]

module _ (past : Past) (a : ItemAt) (found : List Reached) (old new : Kept)
    (only : AreKeptFor (a.process ∷ far_in past a.process a.interval a.item) old new) (own : has_process found a.process ≡ true)
    (among : AreKeptAmong found old) where
  -- of an item whose edges were found
  pub among_some : (es : List FlowEdge) (d : ℕ) → IsAsked past a (Ok (Some es)) → AreKeptAmong (with_all_found found (places_of es) d) new
  among_some es d f q some = elim (only q some) [
    | inl was ↦ still_has (places_of es) found d q (among q was)
    | inr (inl e) ↦ still_has (places_of es) found d q (subst (λ p. has_process found p ≡ true) (sym e) own)
    | inr (inr m) ↦ by (from_far past a.process a.interval a.item q es f m)
  ]
    where
      by : HasOrigin q es → has_process (with_all_found found (places_of es) d) q ≡ true
      by (b, at, is) = subst (λ p. has_process (with_all_found found (places_of es) d) p ≡ true) is (has_found (places_of es) found d b at)

  -- or that it is not there
  pub among_none : IsNoItem past a → AreKeptAmong found new
  among_none none q some = elim (only q some) [
    | inl was ↦ among q was
    | inr (inl e) ↦ subst (λ p. has_process found p ≡ true) (sym e) own
    | inr (inr m) ↦ absurd (subst (λ (ps : List ℕ). IsIn q ps) nobody m)
  ]
    where
      nobody : far_in past a.process a.interval a.item ≡ []
      nobody =
          ap (far_of_item past.program.now past.logs.now (seens_in past) a.process a.interval a.item)
          (sym (same_here past a) ∙ none.1)

-- in any order
pub among_sorted : (found rs : List Reached) (kept : Kept) → IsSortedOf found rs → AreKeptAmong found kept → AreKeptAmong rs kept
among_sorted found rs kept s among q some = sym (list_any-IsPermutation (is_of q) found rs s.moved) ∙ among q some
