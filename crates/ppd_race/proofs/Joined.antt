-- Parts that were all made are the parts wanted, where that is so of each on some condition.
use Rattle.std.proofs.Common.{◌≡◌, ℕ, List, [], ◌∷◌, map, Result, Ok, Err, IfOk, MatchResult, Contains, refl, ap, ap₂, subst, ◌∙◌}
use Rattle.std.specs.List.{AllZip}

first_is : {A : Type 0} (x y : A) (xs ys : List A) → x ∷ xs ≡ y ∷ ys → x ≡ y
first_is x y xs ys e = ap (λ zs. elim zs [ [] ↦ x | z ∷ rest ↦ z ]) e

rest_is : {A : Type 0} (x y : A) (xs ys : List A) → x ∷ xs ≡ y ∷ ys → xs ≡ ys
rest_is x y xs ys e = ap (λ zs. elim zs [ [] ↦ xs | z ∷ rest ↦ rest ]) e

module _ {Y E : Type 0} (H : Type 0) (P : ℕ → Y) where
  ok_is : (k : ℕ) (r : Result Y E) (y : Y) → IfOk r (λ z. H → z ≡ P k) → r ≡ Ok y → H → y ≡ P k
  ok_is k r y h e = subst (λ q. IfOk q (λ z. H → z ≡ P k)) e h

  pub all_parts : (zs : List ℕ) (xs : List (Result Y E)) (ys : List Y) → AllZip (λ k r. IfOk r (λ y. H → y ≡ P k)) zs xs → xs ≡ map Ok ys → H → ys ≡ map P zs
  all_parts [] [] [] h e given = refl
  all_parts [] [] (y ∷ ys) h e given = absurd (cc e)
  all_parts [] (x ∷ xs) ys h e given = absurd h
  all_parts (z ∷ zs) [] ys h e given = absurd h
  all_parts (z ∷ zs) (x ∷ xs) [] h e given = absurd (cc e)
  all_parts (z ∷ zs) (x ∷ xs) (y ∷ ys) h e given =
      ap₂ (λ a b. a ∷ b) (ok_is z x y h.0 (first_is x (Ok y) xs (map Ok ys) e) given) (all_parts zs xs ys h.1 (rest_is x (Ok y) xs (map Ok ys) e) given)

  pub parts_in : {A : Type 0} (items : A → List Y) (zs : List ℕ) (xs : List (Result Y E)) (r : Result A E) → AllZip (λ k q. IfOk q (λ y. H → y ≡ P k)) zs xs
      → MatchResult r (λ v. (ys : List Y) × (xs ≡ map Ok ys) × (items v ≡ ys)) (λ e. Contains xs (Err e)) → IfOk r (λ v. H → items v ≡ map P zs)
  parts_in items zs xs (Ok v) h m = λ given. m.2 ∙ all_parts zs xs m.0 h m.1 given
  parts_in items zs xs (Err e) h m = tt
