-- Lists that are compared piece by piece.
use Rattle.std.proofs.Common.{◌≡◌, ℕ, suc, ◌+◌, ◌<◌, List, [], ◌∷◌, ◌++◌, length, get_or, map, drop, Option, Some, None, sym, ap, ◌∙◌, arith, subst}
use Rattle.std.proofs.lemmas.List.{append_assoc, append_cancel_left, drop-map}
use Rattle.std.proofs.Math.Seq.{drop-cons}
use Rattle.test_valid.specs.Begins.{Begins}

drop_at : {U X : Type 0} (f : U → X) (us : List U) (place : ℕ) (u : U) → place < length us → u ≡ get_or us place u → drop place (map f us) ≡ f u ∷ drop (place + 1) (map f us)
drop_at f us place u h e =
    let one : suc place ≡ place + 1 = omega arith in
    drop-map f place us ∙ ap (map f) (drop-cons us place u h) ∙ ap (λ v. f v ∷ map f (drop (suc place) us)) (sym e)
    ∙ ap (λ l. f u ∷ l) (sym (drop-map f (suc place) us)) ∙ ap (λ n. f u ∷ drop n (map f us)) one

pub begins_here : {U X : Type 0} (f : U → X) (us : List U) (place : ℕ) (u : U) (x : X) → place < length us → u ≡ get_or us place u → f u ≡ x → Begins (Some (place + 1)) (map f us) place (x ∷ [])
begins_here f us place u x h e g = drop_at f us place u h e ∙ ap (λ y. y ∷ drop (place + 1) (map f us)) g

pub begins_not : {U X : Type 0} (f : U → X) (us : List U) (place : ℕ) (u : U) (x : X) → place < length us → u ≡ get_or us place u → (f u ≡ x → ⊥) → Begins None (map f us) place (x ∷ [])
begins_not f us place u x h e g rest same =
    let is : f u ∷ drop (place + 1) (map f us) ≡ x ∷ rest = sym (drop_at f us place u h e) ∙ same in
    g (cc)

pub begins_stop : {X : Type 0} (list : List X) (place : ℕ) (items more : List X) → Begins None list place items → Begins None list place (items ++ more)
begins_stop list place items more h rest same = h (more ++ rest) (same ∙ append_assoc items more rest)

pub begins_then : {X : Type 0} (list : List X) (place n : ℕ) (items more : List X) (after : Option ℕ) → Begins (Some n) list place items → Begins after list n more → Begins after list place (items ++ more)
begins_then list place n items more (Some m) h g = h ∙ ap (λ l. items ++ l) g ∙ sym (append_assoc items more (drop m list))
begins_then list place n items more None h g =
    λ rest same. g rest (append_cancel_left items (drop n list) (more ++ rest) (sym h ∙ same ∙ append_assoc items more rest))

-- the same at a list that is these items and more
pub begins_stop_at : {X : Type 0} (list : List X) (place : ℕ) (items more all : List X) → all ≡ items ++ more → Begins None list place items → Begins None list place all
begins_stop_at list place items more all e h = subst (λ l. Begins None list place l) (sym e) (begins_stop list place items more h)
