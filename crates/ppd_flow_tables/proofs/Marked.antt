-- Keys of places that are added one place after another.
use Rattle.std.proofs.Common.{◌≡◌, ℕ, zero, suc, ◌+◌, ◌^◌, ◌<◌, ◌≤◌, Bool, true, false, ◌&&◌, ◌||◌, List, [], ◌∷◌, ap, ap₂, sym, ◌∙◌, arith, inl, inr, eq-eqb, ne_eqb, lt-ltb, length, get_or}
use Rattle.std.specs.Prelude.{nat_eq, nat_lt, slice_get}
use Rattle.std.proofs.Math.Bool.{or-false}
use Rattle.std.proofs.lemmas.Bool.{cases_eq, cases_lt, le-ltb}
use Rattle.std.proofs.lemmas.Option.{slice_get_past}
use Rattle.ppd_ast.specs.Members.{has}
use Rattle.ppd_flow_tables.specs.Listed.{key}
use Rattle.ppd_flow_tables.specs.Tables.{AreWhere, passes}

-- the test holds at these places below m
abbrev pub AreUpTo : (ℕ → ℕ → Bool) → ℕ → List ℕ → Type 0
AreUpTo test m keys = (n i : ℕ) → i < 2 ^ 32 → has keys (key n i) ≡ (nat_lt i m && test n i)

pub none_yet : (test : ℕ → ℕ → Bool) (keys : List ℕ) → keys ≡ [] → AreUpTo test 0 keys
none_yet test keys e n i small =
    ap (λ (ks : List ℕ). has ks (key n i)) e ∙ sym (ap (λ b. b && test n i) (le-ltb i 0 (omega arith)))

earlier : (a b c t u : Bool) → a ≡ true → b ≡ false → c ≡ true → ((a && t) || (b && u)) ≡ (c && t)
earlier a b c t u e f g = ap₂ (λ x y. (x && t) || (y && u)) e f ∙ or-false t ∙ ap (λ z. z && t) (sym g)

here : (a b c t u : Bool) → a ≡ false → b ≡ true → c ≡ true → u ≡ t → ((a && t) || (b && u)) ≡ (c && t)
here a b c t u e f g h = ap₂ (λ x y. (x && t) || (y && u)) e f ∙ h ∙ ap (λ z. z && t) (sym g)

later : (a b c t u : Bool) → a ≡ false → b ≡ false → c ≡ false → ((a && t) || (b && u)) ≡ (c && t)
later a b c t u e f g = ap₂ (λ x y. (x && t) || (y && u)) e f ∙ ap (λ z. z && t) (sym g)

pub up_to_more : (test : ℕ → ℕ → Bool) (now : ℕ → Bool) (m : ℕ) (keys keys' : List ℕ) → AreUpTo test m keys
    → ((n i : ℕ) → i < 2 ^ 32 → has keys' (key n i) ≡ (has keys (key n i) || (nat_eq m i && now n)))
    → ((n : ℕ) → now n ≡ test n m)
    → AreUpTo test (m + 1) keys'
up_to_more test now m keys keys' h more is n i small =
    more n i small ∙ ap (λ b. b || (nat_eq m i && now n)) (h n i small)
    ∙ elim (cases_lt i m) [
      | inl lt ↦
          earlier (nat_lt i m) (nat_eq m i) (nat_lt i (m + 1)) (test n i) (now n) (lt-ltb i m lt)
          (ne_eqb m i (λ e. absurd (omega (arith, lt, e)))) (lt-ltb i (m + 1) (omega (arith, lt)))
      | inr le ↦ elim (cases_eq m i) [
        | inl e ↦
            here (nat_lt i m) (nat_eq m i) (nat_lt i (m + 1)) (test n i) (now n) (le-ltb i m le) (eq-eqb m i e)
            (lt-ltb i (m + 1) (omega (arith, e))) (is n ∙ ap (test n) e)
        | inr other ↦
            later (nat_lt i m) (nat_eq m i) (nat_lt i (m + 1)) (test n i) (now n) (le-ltb i m le) (ne_eqb m i other)
            (le-ltb i (m + 1) (omega (arith, le, other)))
      ]
    ]

pub up_to_all : (test : ℕ → ℕ → Bool) (m : ℕ) (keys keys' : List ℕ) → AreUpTo test m keys
    → ((n i : ℕ) → m ≤ i → test n i ≡ false) → ((k : ℕ) → has keys' k ≡ has keys k) → AreWhere test keys'
up_to_all test m keys keys' h over same n i small =
    same (key n i) ∙ h n i small
    ∙ elim (cases_lt i m) [
      | inl lt ↦ ap (λ b. b && test n i) (lt-ltb i m lt)
      | inr le ↦ ap (λ b. b && test n i) (le-ltb i m le) ∙ sym (over n i le)
    ]

-- past the end of a list nothing passes
pub none_passes : {A : Type 0} (test : A → Bool) (xs : List A) (i : ℕ) → length xs ≤ i
    → passes test (slice_get xs i) ≡ false
none_passes test xs i le = ap (passes test) (slice_get_past xs i le)

pub one_passes : {A : Type 0} (test : A → Bool) (xs : List A) (i : ℕ) (d x : A) → i < length xs → x ≡ get_or xs i d
    → test x ≡ passes test (slice_get xs i)
one_passes test [] i d x lt is = absurd (omega (arith, lt))
one_passes test (y ∷ xs) zero d x lt is = ap test is
one_passes test (y ∷ xs) (suc i) d x lt is = one_passes test xs i d x (omega (arith, lt)) is
