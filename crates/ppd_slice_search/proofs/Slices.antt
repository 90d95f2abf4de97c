-- An item has one slice: two rising lists with the same elements are equal.
use Rattle.std.proofs.lemmas.List.Elements.{recursion_from_All}
use Rattle.std.proofs.Common.{◌≡◌, ℕ, suc, ◌≤◌, List, [], ◌∷◌, refl, ap₂, sym, subst, ◌∙◌, arith, inl, inr}
use Rattle.std.specs.Prelude.{AllPairs}
use Rattle.ppd_slice_search.specs.declared.reached.ItemAt.{ItemAt}
use Rattle.ppd_slice_search.specs.declared.reached.Reached.{Reached}
use Rattle.ppd_slice_search.specs.Laws.{SlicesAreOne}
use Rattle.ppd_slice_search.specs.Reach.{IsBefore, IsIn, IsReach, Leads, item_of}
use Rattle.ppd_slice_search.proofs.Levels.{AllAfter, IsSooner}

sooner_not : (a b : ItemAt) → IsSooner a b → IsSooner b a → ⊥
sooner_not a b (inl x) (inl y) = omega (arith, x, y)
sooner_not a b (inl x) (inr (e, y)) = omega (arith, x, e)
sooner_not a b (inr (e, x)) (inl y) = omega (arith, y, e)
sooner_not a b (inr (e, inl x)) (inr (f, inl y)) = omega (arith, x, y)
sooner_not a b (inr (e, inl x)) (inr (f, inr (g, y))) = omega (arith, x, g)
sooner_not a b (inr (e, inr (g, x))) (inr (f, inl y)) = omega (arith, y, g)
sooner_not a b (inr (e, inr (g, x))) (inr (f, inr (k, y))) = omega (arith, x, y)

before_not : (r s : Reached) → IsBefore r s → IsBefore s r → ⊥
before_not r s (inl x) (inl y) = omega (arith, x, y)
before_not r s (inl x) (inr (e, y)) = omega (arith, x, e)
before_not r s (inr (e, x)) (inl y) = omega (arith, y, e)
before_not r s (inr (e, x)) (inr (f, y)) = sooner_not (item_of r) (item_of s) x y

after_is : (r s : Reached) (rs : List Reached) → AllAfter r rs → IsIn s rs → IsBefore r s
after_is r s [] h m = absurd m
after_is r s (t ∷ ts) h (inl e) = subst (IsBefore r) (sym e) h.0
after_is r s (t ∷ ts) h (inr m) = after_is r s ts h.1 m

-- the first comes before each of the rest
front : (r : Reached) (rs : List Reached) → AllPairs IsBefore (r ∷ rs) → AllAfter r rs
front r rs a = recursion_from_All (IsBefore r) rs (λ k d lt. a 0 (suc k) d (omega arith) (omega (arith, lt)))

-- rising lists with the same elements
same_lists : (rs ss : List Reached) → AllPairs IsBefore rs → AllPairs IsBefore ss → ((r : Reached) → IsIn r rs → IsIn r ss) → ((s : Reached) → IsIn s ss → IsIn s rs) → rs ≡ ss
same_lists [] [] a b f g = refl
same_lists [] (s ∷ ss) a b f g = absurd (g s (inl refl))
same_lists (r ∷ rs) [] a b f g = absurd (f r (inl refl))
same_lists (r ∷ rs) (s ∷ ss) a b f g =
    ap₂ (λ x xs. x ∷ xs) first (same_lists rs ss (λ i j d lt within. a (suc i) (suc j) d (omega (arith, lt)) (omega (arith, within))) (λ i j d lt within. b (suc i) (suc j) d (omega (arith, lt)) (omega (arith, within))) (λ x m. onward x m (f x (inr m))) (λ x m. back x m (g x (inr m))))
  where
    first : r ≡ s
    first = by (f r (inl refl)) (g s (inl refl))
      where
        by : IsIn r (s ∷ ss) → IsIn s (r ∷ rs) → r ≡ s
        by (inl e) m = e
        by (inr k) (inl e) = sym e
        by (inr k) (inr m) = absurd (before_not r s (after_is r s rs (front r rs a) m) (after_is s r ss (front s ss b) k))

    onward : (x : Reached) → IsIn x rs → IsIn x (s ∷ ss) → IsIn x ss
    onward x m (inr k) = k
    onward x m (inl e) = absurd (let z : IsBefore r x = after_is r x rs (front r rs a) m in let y : x ≡ r = e ∙ sym first in before_not r x z (subst (λ w. IsBefore w r) (sym y) (subst (IsBefore r) y z)))

    back : (x : Reached) → IsIn x ss → IsIn x (r ∷ rs) → IsIn x rs
    back x m (inr k) = k
    back x m (inl e) = absurd (let z : IsBefore s x = after_is s x ss (front s ss b) m in let y : x ≡ s = e ∙ first in before_not s x z (subst (λ w. IsBefore w s) (sym y) (subst (IsBefore s) y z)))

-- of two slices each has the elements of the other
module _ (next : ItemAt → List ItemAt) (a : ItemAt) where
  abbrev made : ItemAt → ℕ → Reached
  made b d = record { process = b.process; interval = b.interval; item = b.item; depth = d }

  other : (rs ss : List Reached) → IsReach next a rs → IsReach next a ss → (r : Reached) → IsIn r rs → IsIn r ss
  other rs ss x y r m =
      let s = y.all r.depth (item_of r) (x.led_to r m) in
      let leads : Leads next r.depth a (item_of s.0) = subst (Leads next r.depth a) (sym s.2) (x.led_to r m) in
      let leads' : Leads next s.0.depth a (item_of r) = subst (Leads next s.0.depth a) s.2 (y.led_to s.0 s.1) in
      let le : s.0.depth ≤ r.depth = y.least s.0 s.1 r.depth leads in
      let ge : r.depth ≤ s.0.depth = x.least r m s.0.depth leads' in
      let same : s.0.depth ≡ r.depth = omega (arith, le, ge) in
      let is : s.0 ≡ r = ap₂ (λ b d. made b d) s.2 same in
      subst (λ z. IsIn z ss) is s.1

pub slices_one : SlicesAreOne
slices_one next a rs ss x y = same_lists rs ss x.rising y.rising (λ r m. other next a rs ss x y r m) (λ s m. other next a ss rs y x s m)
