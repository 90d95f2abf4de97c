-- Parts that are made one by one, each by its number.
use Rattle.std.proofs.Common.{◌≡◌, ℕ, ◌<◌, List, [], ◌∷◌, length, map, get_or, Result, Ok, Err, IfOk, MatchResult, Contains, refl, ap, ap₂, sym, subst, ◌∙◌}
use Rattle.std.specs.List.{AllZip, range_with_len}
use Rattle.std.proofs.Math.ListN as math
use Rattle.std.proofs.lemmas.List.{get_or-map, length-map}
use Rattle.std.proofs.lemmas.List.FromFn.{fill_by_all}
use Rattle.rayon.proofs.ListFacts.{AllZip-weaken, IfOk-then}
use Rattle.ppd_race.proofs.Joined as race

-- where each is the one of its number, all are those of the numbers
pub parts_in : {A Y E : Type 0} (P : ℕ → Y) (items : A → List Y) (zs : List ℕ) (xs : List (Result Y E)) (r : Result A E)
    → AllZip (λ k q. IfOk q (λ y. y ≡ P k)) zs xs
    → MatchResult r (λ v. (ys : List Y) × (xs ≡ map Ok ys) × (items v ≡ ys)) (λ e. Contains xs (Err e))
    → IfOk r (λ v. items v ≡ map P zs)
parts_in P items zs xs r h m =
    IfOk-then r _ _ (race.parts_in (Unit {0}) P items zs xs r (AllZip-weaken _ _ (λ k q given. IfOk-then q _ _ given (λ y e t. e)) zs xs h) m) (λ v given. given tt)

pub below : {i m n : ℕ} → i < m → m ≡ n → i < n
below {i} h e = subst (λ k. i < k) e h

-- what is made of the item with this number
pub made_at : {X Y : Type 0} (f : X → Y) (xs : List X) (p : ℕ) (x : X) (d : Y) → p < length xs → x ≡ get_or xs p x → f x ≡ get_or (map f xs) p d
made_at f xs p x d there is = ap f is ∙ sym (get_or-map f xs p x d there)

-- so it is made of all
pub made_of_all : {X Y Z : Type 0} (f : X → Y) (g : Y → Z) (xs : List X) (d : Y)
    → map (λ p. g (get_or (map f xs) p d)) (range_with_len 0 (length xs)) ≡ map g (map f xs)
made_of_all f g xs d =
    sym (fill_by_all (λ p. g (get_or (map f xs) p d)) (map g (map f xs)) (length xs) (g d) (length-map (map f xs) g ∙ length-map xs f) (λ k lt. math.get_or-map g (map f xs) k d))

-- what is made alike of an item and of that of another list, which is in step with it
pub in_step : {X Y Z W : Type 0} (f : X → Z) (g : Y → Z) (h : Y → W) (xs : List X) (ys : List Y) (p : ℕ) (x : X) (y : Y) (z : Z) (w out : W)
    → map f xs ≡ map g ys → p < length xs → x ≡ get_or xs p x → ((v : Y) → g v ≡ f x → out ≡ h v) → out ≡ get_or (map h ys) p w
in_step f g h xs ys p x y z w out same there is made =
    let long : length xs ≡ length ys = sym (length-map xs f) ∙ ap length same ∙ length-map ys g in
    let within : p < length ys = below there long in
    made (get_or ys p y) (sym (get_or-map g ys p y z within) ∙ ap (λ l. get_or l p z) (sym same) ∙ sym (made_at f xs p x z there is))
    ∙ sym (get_or-map h ys p y w within)

-- ---- where of each what is made of it is that of its number, so it is of all

first_is : {A : Type 0} (x y : A) (xs ys : List A) → x ∷ xs ≡ y ∷ ys → x ≡ y
first_is x y xs ys e = ap (λ zs. elim zs [ [] ↦ x | z ∷ rest ↦ z ]) e

rest_is : {A : Type 0} (x y : A) (xs ys : List A) → x ∷ xs ≡ y ∷ ys → xs ≡ ys
rest_is x y xs ys e = ap (λ zs. elim zs [ [] ↦ xs | z ∷ rest ↦ rest ]) e

module _ {Y Z E : Type 0} (P : ℕ → Z) (f : Y → Z) where
  made_is : (k : ℕ) (q : Result Y E) (y : Y) → IfOk q (λ v. f v ≡ P k) → q ≡ Ok y → f y ≡ P k
  made_is k q y h e = subst (λ r. IfOk r (λ v. f v ≡ P k)) e h

  all_made : (zs : List ℕ) (xs : List (Result Y E)) (ys : List Y) → AllZip (λ k q. IfOk q (λ v. f v ≡ P k)) zs xs → xs ≡ map Ok ys → map f ys ≡ map P zs
  all_made [] [] [] h e = refl
  all_made [] [] (y ∷ ys) h e = absurd (cc e)
  all_made [] (x ∷ xs) ys h e = absurd h
  all_made (z ∷ zs) [] ys h e = absurd h
  all_made (z ∷ zs) (x ∷ xs) [] h e = absurd (cc e)
  all_made (z ∷ zs) (x ∷ xs) (y ∷ ys) h e =
      ap₂ (λ a b. a ∷ b) (made_is z x y h.0 (first_is x (Ok y) xs (map Ok ys) e)) (all_made zs xs ys h.1 (rest_is x (Ok y) xs (map Ok ys) e))

  pub made_in : {A : Type 0} (items : A → List Y) (zs : List ℕ) (xs : List (Result Y E)) (r : Result A E)
      → AllZip (λ k q. IfOk q (λ v. f v ≡ P k)) zs xs
      → MatchResult r (λ v. (ys : List Y) × (xs ≡ map Ok ys) × (items v ≡ ys)) (λ e. Contains xs (Err e))
      → IfOk r (λ v. map f (items v) ≡ map P zs)
  made_in items zs xs (Ok v) h m = ap (map f) m.2 ∙ all_made zs xs m.0 h m.1
  made_in items zs xs (Err e) h m = tt
