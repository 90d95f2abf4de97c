-- Laws of sets below a number, and of a rising list with one more number.
use Rattle.std.proofs.Common.{◌≡◌, ℕ, zero, suc, ◌+◌, ◌<◌, ◌≤◌, List, [], ◌∷◌, Bool, true, false, refl, sym, ap, ◌∙◌, arith, inl, inr, cond, ◌||◌}
use Rattle.std.specs.Prelude.{nat_eq, nat_lt}
use Rattle.std.specs.List.{range_with_len, filter}
use Rattle.std.proofs.lemmas.Bool.{or_left, or_right, or_cases, eqb-true, eq-eqb, ne_eqb, le-ltb, lt-ltb, cases_order, cond-true, cond-false}
use Rattle.ppd_ast.specs.Members.{has, those, with_cell, RisesFrom}
use Rattle.ppd_ast.proofs.Members.{below_range, filter_same_in}
use Rattle.ppd_ast.proofs.Those.{both, those_below, rises_filter}
use Rattle.ppd_sets.specs.CellSets.{IsSetBelow}

pub those_set : (n : ℕ) (test : ℕ → Bool) → IsSetBelow n (those n test)
those_set n test = (rises_filter test 0 n, λ x t. those_below n test x t)

-- ---- one more number

pub with_first : (c : ℕ) (xs : List ℕ) → RisesFrom (c + 1) xs → with_cell c xs ≡ c ∷ xs
with_first c [] r = refl
with_first c (d ∷ ds) r =
    let more = r.0 in
    cond-true (nat_lt c d) (c ∷ d ∷ ds) (cond (nat_eq c d) (d ∷ ds) (d ∷ with_cell c ds)) (lt-ltb c d (omega (arith, more)))

with_same : (c d : ℕ) (ds : List ℕ) → c ≡ d → with_cell c (d ∷ ds) ≡ d ∷ ds
with_same c d ds e =
    cond-false (nat_lt c d) (c ∷ d ∷ ds) (cond (nat_eq c d) (d ∷ ds) (d ∷ with_cell c ds)) (le-ltb c d (omega arith))
    ∙ cond-true (nat_eq c d) (d ∷ ds) (d ∷ with_cell c ds) (eq-eqb c d e)

with_later : (c d : ℕ) (ds : List ℕ) → d < c → with_cell c (d ∷ ds) ≡ d ∷ with_cell c ds
with_later c d ds h =
    cond-false (nat_lt c d) (c ∷ d ∷ ds) (cond (nat_eq c d) (d ∷ ds) (d ∷ with_cell c ds)) (le-ltb c d (omega arith))
    ∙ cond-false (nat_eq c d) (d ∷ ds) (d ∷ with_cell c ds) (ne_eqb c d (λ e. omega arith))

at_head : (b : Bool) (a : ℕ) (rest : List ℕ) → RisesFrom (a + 1) rest → a ∷ rest ≡ with_cell a (cond b (a ∷ rest) rest)
at_head true a rest r = sym (with_same a a rest refl)
at_head false a rest r = sym (with_first a rest r)

past_head : (b : Bool) (c a : ℕ) (new rest : List ℕ) → a < c → new ≡ with_cell c rest → cond b (a ∷ new) new ≡ with_cell c (cond b (a ∷ rest) rest)
past_head true c a new rest h e = ap (λ zs. a ∷ zs) e ∙ sym (with_later c a rest h)
past_head false c a new rest h e = e

more_filter : (c : ℕ) (test : ℕ → Bool) (a n : ℕ) → a ≤ c → c < a + n → filter (λ x. nat_eq c x || test x) (range_with_len a n) ≡ with_cell c (filter test (range_with_len a n))
more_filter c test a zero h k = absurd (omega arith)
more_filter c test a (suc n) h k =
    let rest : List ℕ = filter test (range_with_len (a + 1) n) in
    let new : List ℕ = filter (λ x. nat_eq c x || test x) (range_with_len (a + 1) n) in
    elim (cases_order a c) [
      | inl e ↦
          let kept : new ≡ rest = filter_same_in (λ x. nat_eq c x || test x) test (range_with_len (a + 1) n)
          (λ x i. ap (λ b. b || test x) (ne_eqb c x (λ f. let inside = below_range (a + 1) n x i in omega (arith, inside.0)))) in
          cond-true (nat_eq c a || test a) (a ∷ new) new (or_left (nat_eq c a) (test a) (eq-eqb c a (sym e))) ∙ ap (λ zs. a ∷ zs) kept
          ∙ at_head (test a) a rest (rises_filter test (a + 1) n) ∙ ap (λ z. with_cell z (cond (test a) (a ∷ rest) rest)) e
      | inr other ↦ elim other [
        | inl less ↦
            ap (λ b. cond (b || test a) (a ∷ new) new) (ne_eqb c a (λ f. omega arith))
            ∙ past_head (test a) c a new rest less (more_filter c test (a + 1) n (omega arith) (omega arith))
        | inr more ↦ absurd (omega arith)
      ]
    ]

pub those_more : (c n : ℕ) (test : ℕ → Bool) → c < n → those n (λ x. nat_eq c x || test x) ≡ with_cell c (those n test)
those_more c n test h = more_filter c test 0 n (omega arith) (omega arith)

exchange : (a b d : Bool) → (a || (b || d)) ≡ (b || (a || d))
exchange true true d = refl
exchange true false d = refl
exchange false b d = refl

has_with_by : (l e : Bool) (c d : ℕ) (ds : List ℕ) (x : ℕ) → nat_lt c d ≡ l → nat_eq c d ≡ e → has (with_cell c ds) x ≡ (nat_eq c x || has ds x) →
    has (cond l (c ∷ d ∷ ds) (cond e (d ∷ ds) (d ∷ with_cell c ds))) x ≡ (nat_eq c x || has (d ∷ ds) x)
has_with_by true e c d ds x p q h = refl
has_with_by false true c d ds x p q h =
    both (has (d ∷ ds) x) (nat_eq c x || has (d ∷ ds) x) (λ t. or_right (nat_eq c x) (has (d ∷ ds) x) t)
    (λ t. elim (or_cases (nat_eq c x) (has (d ∷ ds) x) t) [
      | inl s ↦ or_left (nat_eq d x) (has ds x) (eq-eqb d x (sym (eqb-true c d q) ∙ eqb-true c x s))
      | inr s ↦ s
    ])
has_with_by false false c d ds x p q h = ap (λ b. nat_eq d x || b) h ∙ exchange (nat_eq d x) (nat_eq c x) (has ds x)

pub has_with : (c : ℕ) (xs : List ℕ) (x : ℕ) → has (with_cell c xs) x ≡ (nat_eq c x || has xs x)
has_with c [] x = refl
has_with c (d ∷ ds) x = has_with_by (nat_lt c d) (nat_eq c d) c d ds x refl refl (has_with c ds x)
