-- One more number of a range, and tests that say the same of each.
use Rattle.std.proofs.Common.{◌≡◌, ℕ, zero, suc, ◌+◌, ◌-◌, ◌<◌, ◌≤◌, Bool, true, false, ◌||◌, List, [], ◌∷◌, Option, Some, refl, ap, ap₂, sym, ◌∙◌, arith, if◌then◌else◌}
use Rattle.std.specs.List.{list_any, range_with_len}
use Rattle.std.specs.Prelude.{find, fold}
use Rattle.ppd_clean.specs.ByOrder.{later}
use Rattle.ppd_model.proofs.Tested.{In, here, there}

range_next : (i n : ℕ) → i < n → range_with_len i (n - i) ≡ i ∷ range_with_len (i + 1) (n - (i + 1))
range_next i n lt = let z : n - i ≡ suc (n - (i + 1)) = omega (arith, lt) in ap (range_with_len i) z

range_none : (i n : ℕ) → n ≤ i → range_with_len i (n - i) ≡ []
range_none i n le = let z : n - i ≡ 0 = omega (arith, le) in ap (range_with_len i) z

pub fold_next : {A : Type 0} (f : A → ℕ → A) (a b : A) (i n : ℕ) → i < n → b ≡ f a i
    → fold f b (range_with_len (i + 1) (n - (i + 1))) ≡ fold f a (range_with_len i (n - i))
fold_next f a b i n lt is =
    ap (λ c. fold f c (range_with_len (i + 1) (n - (i + 1)))) is ∙ sym (ap (fold f a) (range_next i n lt))

module _ (t : ℕ → Bool) where
  pub find_here : (i n : ℕ) → i < n → t i ≡ true → find t (range_with_len i (n - i)) ≡ Some i
  find_here i n lt e =
      ap (find t) (range_next i n lt) ∙ ap (λ b. if b then Some i else find t (range_with_len (i + 1) (n - (i + 1)))) e

  pub find_next : (i n : ℕ) → i < n → t i ≡ false
      → find t (range_with_len (i + 1) (n - (i + 1))) ≡ find t (range_with_len i (n - i))
  find_next i n lt e =
      sym (ap (find t) (range_next i n lt) ∙ ap (λ b. if b then Some i else find t (range_with_len (i + 1) (n - (i + 1)))) e)

-- ---- the same tests

pub find_same : (f g : ℕ → Bool) (a n : ℕ) → ((i : ℕ) → a ≤ i → i < a + n → f i ≡ g i)
    → find f (range_with_len a n) ≡ find g (range_with_len a n)
find_same f g a zero h = refl
find_same f g a (suc n) h =
    ap₂ (λ b (o : Option ℕ). if b then Some a else o) (h a (omega arith) (omega arith))
    (find_same f g (a + 1) n (λ i le lt. h i (omega (arith, le)) (omega (arith, lt))))

pub fold_same : (f g : ℕ → Bool) (o : Option ℕ) (a n : ℕ) → ((i : ℕ) → a ≤ i → i < a + n → f i ≡ g i)
    → fold (λ found i. later (f i) i found) o (range_with_len a n)
    ≡ fold (λ found i. if g i then Some i else found) o (range_with_len a n)
fold_same f g o a zero h = refl
fold_same f g o a (suc n) h =
    ap (λ b. fold (λ found i. later (f i) i found) (later b a o) (range_with_len (a + 1) n)) (h a (omega arith) (omega arith))
    ∙ fold_same f g (later (g a) a o) (a + 1) n (λ i le lt. h i (omega (arith, le)) (omega (arith, lt)))

pub any_same : {A : Type 0} (f g : A → Bool) (xs : List A) → ((a : A) → In a xs → f a ≡ g a) → list_any f xs ≡ list_any g xs
any_same f g [] h = refl
any_same f g (x ∷ xs) h = ap₂ (λ a b. a || b) (h x here) (any_same f g xs (λ a m. h a (there m)))
