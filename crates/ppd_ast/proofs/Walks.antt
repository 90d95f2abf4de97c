-- One more element of a list that a loop goes over.
use Rattle.std.proofs.Common.{subst, inl, inr, ◌≡◌, ℕ, zero, suc, ◌+◌, ◌<◌, ◌≤◌, arith, Some, None, sym, List, [], ◌∷◌, ◌++◌, length, get_or, take, refl, ap, ◌∙◌}
use Rattle.std.specs.Prelude.{slice_get}
use Rattle.std.specs.List.{flat_map}
use Rattle.std.proofs.lemmas.Option.{slice_get-get_or}
use Rattle.std.proofs.lemmas.List.{take_more, append-nil}
use Rattle.std.proofs.lemmas.Bool.{cases_lt}
use Rattle.std.proofs.lemmas.Grind.{flat_map-append}

pub flat_more : {X A : Type 0} (g : X → List A) (xs : List X) (i : ℕ) (d : X) → i < length xs
    → flat_map g (take (i + 1) xs) ≡ flat_map g (take i xs) ++ g (get_or xs i d)
flat_more g xs i d h =
    ap (flat_map g) (take_more xs i d h) ∙ flat_map-append g (take i xs) (get_or xs i d ∷ [])
    ∙ ap (λ l. flat_map g (take i xs) ++ l) (append-nil (g (get_or xs i d)))

-- what `get` found, and that it found nothing
pub got_some : {X : Type 0} (xs : List X) (i : ℕ) (x : X) → i < length xs → x ≡ get_or xs i x → slice_get xs i ≡ Some x
got_some xs i x h e = slice_get-get_or xs i x h ∙ ap Some (sym e)

pub got_none : {X : Type 0} (xs : List X) (i : ℕ) → length xs ≤ i → slice_get xs i ≡ None
got_none [] i h = refl
got_none (x ∷ xs) zero h = absurd (omega arith)
got_none (x ∷ xs) (suc i) h = got_none xs i (omega arith)

-- one more element of which P holds
pub each_more : {X : Type 0} (P : ℕ → X → Type 0) (xs : List X) (i : ℕ) (x : X)
    → ((k : ℕ) (d : X) → k < i → P k (get_or xs k d)) → i < length xs → x ≡ get_or xs i x → P i x → (k : ℕ) (d : X) → k < i + 1 → P k (get_or xs k d)
each_more {X} P xs i x before inside is here k d h = elim (cases_lt k i) [
  | inl low ↦ before k d low
  | inr up ↦
      let same : i ≡ k = omega arith in
      let long : k < length xs = omega arith in
      let any : get_or xs k x ≡ get_or xs k d = get_or_same xs k x d long in
      subst (λ y. P k y) any (subst (λ m. P m (get_or xs m x)) same (subst (λ y. P i y) is here))
]
  where
    get_or_same : (ys : List X) (n : ℕ) (a b : X) → n < length ys → get_or ys n a ≡ get_or ys n b
    get_or_same ys n a b l = cc (slice_get-get_or ys n a l, slice_get-get_or ys n b l)
