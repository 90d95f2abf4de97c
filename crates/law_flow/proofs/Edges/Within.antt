-- The sum over distinct intervals that pass is no more than the sum over all that pass.
use Rattle.std.proofs.Common.{◌≡◌, ℕ, zero, suc, ◌+◌, ◌≤◌, Bool, true, false, cond, List, [], ◌∷◌, None, Some, refl, ap, sym, ◌∙◌, subst, arith, inl, inr, eq-eqb}
use Rattle.std.proofs.lemmas.Bool.{cases_eq, ne_eqb}
use Rattle.std.proofs.lemmas.List.Sums.{sum_by-append, sum_by-cons}
use Rattle.std.proofs.lemmas.Option.{none-some}
use Rattle.std.specs.Prelude.{slice_get, sum_by}
use Rattle.ppd_model.specs.Intervals.{Span, Split}
use Rattle.ppd_model.specs.NearIntervals.{near_from, passing}
use Rattle.law_flow.specs.Edges.Within.{AreDistinct, IsNotIn, ReplaysAreWithin, steps_from}

at_first : (k : ℕ) (i : Span) (is : List Span) (m : ℕ) → m ≡ k → steps_from k (i ∷ is) m ≡ i.steps
at_first k i is m e = ap (λ b. cond b i.steps (steps_from (k + 1) is m)) (eq-eqb m k e)

at_rest : (k : ℕ) (i : Span) (is : List Span) (m : ℕ) → (m ≡ k → ⊥) → steps_from k (i ∷ is) m ≡ steps_from (k + 1) is m
at_rest k i is m d = ap (λ b. cond b i.steps (steps_from (k + 1) is m)) (ne_eqb m k d)

without : (k : ℕ) (i : Span) (is : List Span) (ms : List ℕ) → IsNotIn k ms → sum_by (steps_from k (i ∷ is)) ms ≡ sum_by (steps_from (k + 1) is) ms
without k i is [] h = refl
without k i is (m ∷ ms) h =
    let a : steps_from k (i ∷ is) m ≡ steps_from (k + 1) is m = at_rest k i is m h.0 in
    let b : sum_by (steps_from k (i ∷ is)) ms ≡ sum_by (steps_from (k + 1) is) ms = without k i is ms h.1 in
    let c = sum_by-cons (steps_from k (i ∷ is)) m ms in
    let d = sum_by-cons (steps_from (k + 1) is) m ms in
    omega (arith, a, b, c, d)

with_first : (k : ℕ) (i : Span) (is : List Span) (ms : List ℕ) → AreDistinct ms → sum_by (steps_from k (i ∷ is)) ms ≤ i.steps + sum_by (steps_from (k + 1) is) ms
with_first k i is [] h = omega arith
with_first k i is (m ∷ ms) h =
    let c = sum_by-cons (steps_from k (i ∷ is)) m ms in
    let d = sum_by-cons (steps_from (k + 1) is) m ms in
    elim (cases_eq m k) [
      | inl same ↦
          let a : steps_from k (i ∷ is) m ≡ i.steps = at_first k i is m same in
          let b : sum_by (steps_from k (i ∷ is)) ms ≡ sum_by (steps_from (k + 1) is) ms = without k i is ms (subst (λ z. IsNotIn z ms) same h.0) in
          omega (arith, a, b, c, d)
      | inr other ↦
          let a : steps_from k (i ∷ is) m ≡ steps_from (k + 1) is m = at_rest k i is m other in
          let b : sum_by (steps_from k (i ∷ is)) ms ≤ i.steps + sum_by (steps_from (k + 1) is) ms = with_first k i is ms h.1 in
          omega (arith, a, b, c, d)
    ]

nothing : (k : ℕ) (ms : List ℕ) → sum_by (steps_from k []) ms ≡ 0
nothing k [] = refl
nothing k (m ∷ ms) = let c = sum_by-cons (steps_from k []) m ms in let r : sum_by (steps_from k []) ms ≡ 0 = nothing k ms in omega (arith, c, r)

by_test : (near : ℕ → Span → Bool) (k : ℕ) (i : Span) (is : List Span) (ms : List ℕ) → AreDistinct ms
    → (near k i ≡ false → IsNotIn k ms)
    → sum_by (steps_from (k + 1) is) ms ≤ sum_by (λ (y : Span). y.steps) (passing near (k + 1) is)
    → (b : Bool) → near k i ≡ b → sum_by (steps_from k (i ∷ is)) ms ≤ sum_by (λ (y : Span). y.steps) (cond (near k i) (i ∷ passing near (k + 1) is) (passing near (k + 1) is))
by_test near k i is ms h none r true e =
    subst (λ b. sum_by (steps_from k (i ∷ is)) ms ≤ sum_by (λ (y : Span). y.steps) (cond b (i ∷ passing near (k + 1) is) (passing near (k + 1) is))) (sym e)
    (let a : sum_by (steps_from k (i ∷ is)) ms ≤ i.steps + sum_by (steps_from (k + 1) is) ms = with_first k i is ms h in
    let c = sum_by-cons (λ (y : Span). y.steps) i (passing near (k + 1) is) in
    omega (arith, a, c, r))
by_test near k i is ms h none r false e =
    subst (λ b. sum_by (steps_from k (i ∷ is)) ms ≤ sum_by (λ (y : Span). y.steps) (cond b (i ∷ passing near (k + 1) is) (passing near (k + 1) is))) (sym e)
    (let a : sum_by (steps_from k (i ∷ is)) ms ≡ sum_by (steps_from (k + 1) is) ms = without k i is ms (none e) in
    omega (arith, a, r))

within_passing : (near : ℕ → Span → Bool) (k : ℕ) (spans : List Span) (ms : List ℕ) → AreDistinct ms
    → ((j : ℕ) (i : Span) → slice_get spans j ≡ Some i → near (k + j) i ≡ false → IsNotIn (k + j) ms)
    → sum_by (steps_from k spans) ms ≤ sum_by (λ (i : Span). i.steps) (passing near k spans)
within_passing near k [] ms h none = let e : sum_by (steps_from k []) ms ≡ 0 = nothing k ms in omega (arith, e)
within_passing near k (i ∷ is) ms h none =
    let zero_at : k + 0 ≡ k = omega arith in
    by_test near k i is ms h (λ e. subst (λ z. IsNotIn z ms) zero_at (none 0 i refl (ap (λ z. near z i) zero_at ∙ e)))
    (within_passing near (k + 1) is ms h (λ j y e f.
    let far : k + suc j ≡ (k + 1) + j = omega arith in
    subst (λ z. IsNotIn z ms) far (none (suc j) y e (ap (λ z. near z y) far ∙ f))))
    (near k i) refl

within_all : (near : ℕ → Split → ℕ → Span → Bool) (p : ℕ) (xs : List Split) (q : ℕ) (x : Split) → slice_get xs q ≡ Some x
    → sum_by (λ (i : Span). i.steps) (passing (near (p + q) x) 0 x.spans) ≤ sum_by (λ (i : Span). i.steps) (near_from near p xs)
within_all near p [] q x e = absurd (none-some x e)
within_all near p (y ∷ xs) zero x e =
    let same : y ≡ x = ap (λ o. elim o [ None ↦ y | Some z ↦ z ]) e in
    let a : sum_by (λ (i : Span). i.steps) (passing (near (p + 0) x) 0 x.spans) ≡ sum_by (λ (i : Span). i.steps) (passing (near p y) 0 y.spans) =
    ap (λ k. sum_by (λ (i : Span). i.steps) (passing (near k x) 0 x.spans)) (omega arith) ∙ ap (λ (z : Split). sum_by (λ (i : Span). i.steps) (passing (near p z) 0 z.spans)) (sym same) in
    let b = sum_by-append (λ (i : Span). i.steps) (passing (near p y) 0 y.spans) (near_from near (p + 1) xs) in
    omega (arith, a, b)
within_all near p (y ∷ xs) (suc q) x e =
    let far : p + suc q ≡ (p + 1) + q = omega arith in
    let r : sum_by (λ (i : Span). i.steps) (passing (near (p + suc q) x) 0 x.spans) ≤ sum_by (λ (i : Span). i.steps) (near_from near (p + 1) xs) =
    subst (λ k. sum_by (λ (i : Span). i.steps) (passing (near k x) 0 x.spans) ≤ sum_by (λ (i : Span). i.steps) (near_from near (p + 1) xs)) (sym far) (within_all near (p + 1) xs q x e) in
    let b = sum_by-append (λ (i : Span). i.steps) (passing (near p y) 0 y.spans) (near_from near (p + 1) xs) in
    omega (arith, r, b)

pub replays_within : ReplaysAreWithin
replays_within near xs q x ms at once pass =
    let a : sum_by (steps_from 0 x.spans) ms ≤ sum_by (λ (i : Span). i.steps) (passing (near q x) 0 x.spans) =
    within_passing (near q x) 0 x.spans ms once (λ j i e f.
    let here : 0 + j ≡ j = omega arith in
    subst (λ z. IsNotIn z ms) (sym here) (pass j i e (ap (λ z. near q x z i) (sym here) ∙ f))) in
    let b : sum_by (λ (i : Span). i.steps) (passing (near (0 + q) x) 0 x.spans) ≤ sum_by (λ (i : Span). i.steps) (near_from near 0 xs) = within_all near 0 xs q x at in
    let c : sum_by (λ (i : Span). i.steps) (passing (near (0 + q) x) 0 x.spans) ≡ sum_by (λ (i : Span). i.steps) (passing (near q x) 0 x.spans) =
    ap (λ k. sum_by (λ (i : Span). i.steps) (passing (near k x) 0 x.spans)) (omega arith) in
    omega (arith, a, b, c)
