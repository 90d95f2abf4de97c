-- What is added to rows.
use Rattle.std.proofs.Common.{◌≡◌, ℕ, ◌+◌, ◌<◌, ◌≤◌, ◌≢◌, List, [], ◌++◌, length, set, refl, sym, ap, ◌∙◌, arith, inl, inr, length-set, get_or-set_same, get_or-set_other, append-nil, append_assoc}
use Rattle.std.proofs.lemmas.Bool.{cases_order}
use Rattle.ppd_deps.specs.declared.edges.StaticEdge.{StaticEdge}
use Rattle.ppd_deps.specs.Rows.{Adds, row_at}

pub adds_none : (rows : List (List StaticEdge)) → Adds rows rows (λ t. [])
adds_none rows = record { long = refl; each = λ t lt. sym (append-nil (row_at rows t)) }

pub adds_then : (a b c : List (List StaticEdge)) (f g : ℕ → List StaticEdge) → Adds a b f → Adds b c g → Adds a c (λ t. f t ++ g t)
adds_then a b c f g h k = record {
  long = k.long ∙ h.long;
  each = λ t lt. k.each t (let l = h.long in omega (arith, l, lt)) ∙ ap (λ r. r ++ g t) (h.each t lt) ∙ append_assoc (row_at a t) (f t) (g t);
}

pub adds_as : (a b : List (List StaticEdge)) (f g : ℕ → List StaticEdge) → ((t : ℕ) → t < length a → f t ≡ g t) → Adds a b f → Adds a b g
adds_as a b f g e h = record { long = h.long; each = λ t lt. h.each t lt ∙ ap (λ r. row_at a t ++ r) (e t lt) }

-- ---- the rows one after another

-- the same of the first k rows, and the others are as before
pub record AddsFirst (k : ℕ) (old new : List (List StaticEdge)) (more : ℕ → List StaticEdge) : Type 0 where
  pub long : length new ≡ length old
  pub done : (t : ℕ) → t < k → row_at new t ≡ row_at old t ++ more t
  pub rest : (t : ℕ) → k ≤ t → row_at new t ≡ row_at old t

pub first_push : (k : ℕ) (old now new : List (List StaticEdge)) (row : List StaticEdge) (more : ℕ → List StaticEdge) → k < length now → AddsFirst k old now more → new ≡ set now k row → row ≡ row_at now k ++ more k → AddsFirst (k + 1) old new more
first_push k old now new row more lt h is row_is = record {
  long = ap length is ∙ length-set now k row ∙ h.long;
  done = λ t below. elim (cases_order t k) [
    | inl same ↦
        ap (row_at new) same ∙ ap (λ rows. row_at rows k) is ∙ get_or-set_same now k row [] lt ∙ row_is ∙ ap (λ r. r ++ more k) (h.rest k (omega arith))
        ∙ sym (ap (λ n. row_at old n ++ more n) same)
    | inr other ↦ elim other [
      | inl low ↦ (let ne : t ≢ k = omega arith in ap (λ rows. row_at rows t) is ∙ get_or-set_other now k t row [] ne ∙ h.done t low)
      | inr up ↦ absurd (omega arith)
    ]
  ];
  rest = λ t le. (let ne : t ≢ k = omega arith in ap (λ rows. row_at rows t) is ∙ get_or-set_other now k t row [] ne ∙ h.rest t (omega arith));
}
