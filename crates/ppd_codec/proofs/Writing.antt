-- A list spelled element by element in code, and parts one after the other.
use Rattle.std.specs.List.{flat_map}
use Rattle.std.specs.Prelude.{OnOk}
use Rattle.std.proofs.Common.{◌≡◌, ℕ, zero, suc, ◌+◌, ◌<◌, ◌≤◌, List, [], ◌∷◌, ◌++◌, length, take, get_or, Result, Ok, Err, refl, ap, sym, ◌∙◌, arith}
use Rattle.std.proofs.lemmas.List.{append_assoc, flat_map_more, take_more}

take_whole : {A : Type 0} (xs : List A) (i : ℕ) → length xs ≤ i → take i xs ≡ xs
take_whole [] zero h = refl
take_whole [] (suc i) h = refl
take_whole (x ∷ xs) zero h = absurd (omega arith)
take_whole (x ∷ xs) (suc i) h = ap (λ ys. x ∷ ys) (take_whole xs i (omega arith))

module _ {A : Type 0} (f : A → List ℕ) (xs : List A) (i : ℕ) where
  -- one more element
  pub grown : (d : A) (old mid new : List ℕ) → i < length xs → mid ≡ old ++ flat_map f (take i xs) → new ≡ mid ++ f (get_or xs i d) → new ≡ old ++ flat_map f (take (i + 1) xs)
  grown d old mid new h m n = n ∙ ap (λ (ys : List ℕ). ys ++ f (get_or xs i d)) m ∙ flat_map_more f old (take i xs) (get_or xs i d) ∙ ap (λ (ys : List A). old ++ flat_map f ys) (sym (take_more xs i d h))

  -- no more, after a count
  pub closed : (count old mid new : List ℕ) → length xs ≤ i → mid ≡ old ++ count → new ≡ mid ++ flat_map f (take i xs) → new ≡ old ++ (count ++ flat_map f xs)
  closed count old mid new h m n =
      n ∙ ap (λ (ys : List A). mid ++ flat_map f ys) (take_whole xs i h) ∙ ap (λ (ys : List ℕ). ys ++ flat_map f xs) m ∙ append_assoc old count (flat_map f xs)

-- two parts, one after the other
pub link : (old a mid b new : List ℕ) → mid ≡ old ++ a → new ≡ mid ++ b → new ≡ old ++ (a ++ b)
link old a mid b new m n = n ∙ ap (λ (ys : List ℕ). ys ++ b) m ∙ append_assoc old a b

pub on_ok : {T E : Type 0} (r : Result T E) {P Q : Type 0} → (P → Q) → OnOk r P → OnOk r Q
on_ok (Ok x) h p = h p
on_ok (Err e) h p = tt

-- two lists after what was written, by what they are
pub followed : {A : Type 0} (f : List A → List ℕ) (mid new : List ℕ) (xs xs_in ys ys_in : List A) → new ≡ mid ++ (f xs ++ f ys) → xs ≡ xs_in → ys ≡ ys_in → new ≡ mid ++ (f xs_in ++ f ys_in)
followed f mid new xs xs_in ys ys_in n is also = n ∙ ap (λ (zs : List _). mid ++ (f zs ++ f ys)) is ∙ ap (λ (zs : List _). mid ++ (f xs_in ++ f zs)) also
