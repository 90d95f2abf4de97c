-- Lists by the numbers of their elements, counted from the end, and one more or fewer at their head.
use Rattle.std.proofs.Common.{◌≡◌, ℕ, ◌<◌, ◌≤◌, Bool, true, false, ◌&&◌, List, [], ◌∷◌, None, refl, ap, sym, subst, ◌∙◌, length, map, get_or, inl, inr, arith}
use Rattle.std.specs.Prelude.{nat_eq}
use Rattle.std.proofs.lemmas.Bool.{and_cases, and_parts, cases_eq, cond-false, cond-true, eq-eqb, eqb-true, ne_eqb, both_ways}
use Rattle.std.proofs.lemmas.List.{length-map}
use Rattle.ppd_model.specs.FullTrace.{Tag}
use Rattle.ppd_model.specs.LocalTags.{from_end}

pub hit : {A : Type 0} (none x : A) (xs : List A) (k : ℕ) → k ≡ length xs → from_end none (x ∷ xs) k ≡ x
hit none x xs k e = cond-true (nat_eq k (length xs)) x (from_end none xs k) (eq-eqb k (length xs) e)

pub miss : {A : Type 0} (none x : A) (xs : List A) (k : ℕ) → (k ≡ length xs → ⊥) → from_end none (x ∷ xs) k ≡ from_end none xs k
miss none x xs k n = cond-false (nat_eq k (length xs)) x (from_end none xs k) (ne_eqb k (length xs) n)

pub past : {A : Type 0} (none : A) (xs : List A) (k : ℕ) → length xs ≤ k → from_end none xs k ≡ none
past none [] k le = refl
past none (x ∷ xs) k le = miss none x xs k (λ e. omega arith) ∙ past none xs k (omega arith)

map_length : (xs : List (List Tag)) → length (map length xs) ≡ length xs
map_length xs = length-map xs length

pub from_end-length : (xs : List (List Tag)) (k : ℕ) → from_end 0 (map length xs) k ≡ length (from_end [] xs k)
from_end-length [] k = refl
from_end-length (x ∷ xs) k = elim (cases_eq k (length xs)) [
  | inl e ↦ hit 0 (length x) (map length xs) k (e ∙ sym (map_length xs)) ∙ ap length (sym (hit [] x xs k e))
  | inr n ↦ miss 0 (length x) (map length xs) k (λ e. n (e ∙ map_length xs)) ∙ from_end-length xs k ∙ ap length (sym (miss [] x xs k n))
]

-- ---- the tags of all activations before and after a step, which writes the cells of the test

pub record Outcome (old new : List (List Tag)) (sizes : List ℕ) (w : ℕ → ℕ → Bool) (me : Tag) : Type 0 where
  pub shape : map length new ≡ sizes
  pub written : (k c : ℕ) → w k c ≡ true → c < from_end 0 sizes k → get_or (from_end [] new k) c None ≡ me
  pub kept : (k c : ℕ) → w k c ≡ false → k < length old → k < length new → get_or (from_end [] new k) c None ≡ get_or (from_end [] old k) c None
  pub fresh : (k c : ℕ) → w k c ≡ false → length old ≤ k → get_or (from_end [] new k) c None ≡ None
  pub sized : (k : ℕ) → k < length old → k < length new → length (from_end [] new k) ≡ length (from_end [] old k)

pub same : (old : List (List Tag)) (sizes : List ℕ) (w : ℕ → ℕ → Bool) (me : Tag) → map length old ≡ sizes → ((k c : ℕ) → c < from_end 0 sizes k → w k c ≡ false)
    → Outcome old old sizes w me
same old sizes w me shape none = record {
  shape = shape;
  written = λ k c e lt. absurd (both_ways (w k c) (none k c lt) e);
  kept = λ k c e lt lt2. refl;
  fresh = λ k c e le. ap (λ xs. get_or xs c None) (past [] old k le);
  sized = λ k lt lt2. refl;
}

-- an activation goes, and the others stay
pub popped : (a : List Tag) (new : List (List Tag)) (sizes : List ℕ) (w : ℕ → ℕ → Bool) (me : Tag) → map length new ≡ sizes → ((k c : ℕ) → c < from_end 0 sizes k → w k c ≡ false)
    → Outcome (a ∷ new) new sizes w me
popped a new sizes w me shape none = record {
  shape = shape;
  written = λ k c e lt. absurd (both_ways (w k c) (none k c lt) e);
  kept = λ k c e lt lt2. ap (λ xs. get_or xs c None) (sym (miss [] a new k (λ f. omega arith)));
  fresh = λ k c e le. ap (λ xs. get_or xs c None) (past [] new k (omega arith));
  sized = λ k lt lt2. ap length (sym (miss [] a new k (λ f. omega arith)));
}

at_top : (k m : ℕ) (b : Bool) → k ≡ m → (nat_eq k m && b) ≡ false → b ≡ false
at_top k m b e f = elim (and_cases (nat_eq k m) b f) [
  | inl n ↦ absurd (both_ways (nat_eq k m) n (eq-eqb k m e))
  | inr h ↦ h
]

module _ (old below : List (List Tag)) (a : List Tag) (sizes : List ℕ) (w : ℕ → ℕ → Bool) (me : Tag) (u : ℕ → Bool) where
  -- the test is of the top activation's cells of u
  pub record Topped : Type 0 where
    pub shape : map length (a ∷ below) ≡ sizes
    pub w_is : (k c : ℕ) → w k c ≡ (nat_eq k (length below) && u c)
    pub under : (k : ℕ) → k < length below → from_end [] old k ≡ from_end [] below k
    pub longer : length below ≤ length old
    pub sets : (c : ℕ) → u c ≡ true → c < length a → get_or a c None ≡ me
    pub keeps : (c : ℕ) → u c ≡ false → get_or a c None ≡ get_or (from_end [] old (length below)) c None
    pub same_size : length below < length old → length a ≡ length (from_end [] old (length below))

  written_top : Topped → (k c : ℕ) → w k c ≡ true → c < from_end 0 sizes k → get_or (from_end [] (a ∷ below) k) c None ≡ me
  written_top t k c e lt =
      let both : (nat_eq k (length below) ≡ true) × (u c ≡ true) = and_parts (nat_eq k (length below)) (u c) (sym (t.w_is k c) ∙ e) in
      let is : from_end [] (a ∷ below) k ≡ a = hit [] a below k (eqb-true k (length below) both.0) in
      let in_it : c < length (from_end [] (a ∷ below) k) = subst (λ n. c < n) (ap (λ s. from_end 0 s k) (sym t.shape) ∙ from_end-length (a ∷ below) k) lt in
      ap (λ xs. get_or xs c None) is ∙ t.sets c both.1 (subst (λ xs. c < length xs) is in_it)

  kept_top : Topped → (k c : ℕ) → w k c ≡ false → k < length (a ∷ below) → get_or (from_end [] (a ∷ below) k) c None ≡ get_or (from_end [] old k) c None
  kept_top t k c e lt = elim (cases_eq k (length below)) [
    | inl is ↦ ap (λ xs. get_or xs c None) (hit [] a below k is) ∙ t.keeps c (at_top k (length below) (u c) is (sym (t.w_is k c) ∙ e))
        ∙ ap (λ j. get_or (from_end [] old j) c None) (sym is)
    | inr n ↦ ap (λ xs. get_or xs c None) (miss [] a below k n ∙ sym (t.under k (omega arith)))
  ]

  fresh_top : Topped → (k c : ℕ) → w k c ≡ false → length old ≤ k → get_or (from_end [] (a ∷ below) k) c None ≡ None
  fresh_top t k c e le = elim (cases_eq k (length below)) [
    | inl is ↦ ap (λ xs. get_or xs c None) (hit [] a below k is) ∙ t.keeps c (at_top k (length below) (u c) is (sym (t.w_is k c) ∙ e))
        ∙ ap (λ xs. get_or xs c None) (past [] old (length below) (omega arith))
    | inr n ↦ ap (λ xs. get_or xs c None) (miss [] a below k n ∙ past [] below k (omega (arith, t.longer)))
  ]

  sized_top : Topped → (k : ℕ) → k < length old → k < length (a ∷ below) → length (from_end [] (a ∷ below) k) ≡ length (from_end [] old k)
  sized_top t k lt lt2 = elim (cases_eq k (length below)) [
    | inl is ↦ ap length (hit [] a below k is) ∙ t.same_size (omega arith) ∙ ap (λ j. length (from_end [] old j)) (sym is)
    | inr n ↦ ap length (miss [] a below k n ∙ sym (t.under k (omega arith)))
  ]

  pub topped : Topped → Outcome old (a ∷ below) sizes w me
  topped t = record {
    shape = t.shape;
    written = written_top t;
    kept = λ k c e lt lt2. kept_top t k c e lt2;
    fresh = fresh_top t;
    sized = sized_top t;
  }
