-- One more use among those that were.
use Rattle.std.proofs.Common.{◌≡◌, ◌∙◌, ◌||◌, Bool, cond, true, false, true≢false, refl, sym, ap, ap₂, [], ◌∷◌, ◌++◌, Some, None, option_map}
use Rattle.std.specs.Prelude.{find, if◌then◌else◌}
use Rattle.std.specs.Str.{bytes_eq}
use Rattle.ppd_top_requests.specs.GivenWords.{Text, Uses, was_used, value_of}

pub has_push : (id : Text) (u : Uses) (x : Text × Text) → was_used id (u ++ x ∷ []) ≡ (was_used id u || bytes_eq x.0 id)
has_push id [] x = or_false (bytes_eq x.0 id)
  where
    or_false : (b : Bool) → (b || false) ≡ b
    or_false true = refl
    or_false false = refl
has_push id (y ∷ u) x = go (bytes_eq y.0 id) (has_push id u x)
  where
    go : (b : Bool) → was_used id (u ++ x ∷ []) ≡ (was_used id u || bytes_eq x.0 id) → (b || was_used id (u ++ x ∷ [])) ≡ ((b || was_used id u) || bytes_eq x.0 id)
    go true e = refl
    go false e = e

pub value_push : (id : Text) (u : Uses) (x : Text × Text) → value_of id (u ++ x ∷ []) ≡ (if was_used id u then value_of id u else if bytes_eq x.0 id then Some x.1 else None)
value_push id [] x = go (bytes_eq x.0 id)
  where
    go : (b : Bool) → option_map (λ (u : Text × Text). u.1) (cond b (Some x) None) ≡ (if b then Some x.1 else None)
    go true = refl
    go false = refl
value_push id (y ∷ u) x = go (bytes_eq y.0 id) (value_push id u x)
  where
    go : (b : Bool) → value_of id (u ++ x ∷ []) ≡ (if was_used id u then value_of id u else if bytes_eq x.0 id then Some x.1 else None)
        → option_map (λ (z : Text × Text). z.1) (cond b (Some y) (find (λ z. bytes_eq z.0 id) (u ++ x ∷ []))) ≡ (if b || was_used id u then option_map (λ (z : Text × Text). z.1) (cond b (Some y) (find (λ z. bytes_eq z.0 id) u)) else if bytes_eq x.0 id then Some x.1 else None)
    go true e = refl
    go false e = e

pub value_none : (id : Text) (u : Uses) → was_used id u ≡ false → value_of id u ≡ None
value_none id [] e = refl
value_none id (y ∷ u) e = go (bytes_eq y.0 id) e (value_none id u)
  where
    go : (b : Bool) → (b || was_used id u) ≡ false → (was_used id u ≡ false → value_of id u ≡ None) → option_map (λ (z : Text × Text). z.1) (cond b (Some y) (find (λ z. bytes_eq z.0 id) u)) ≡ None
    go true e next = absurd (true≢false e)
    go false e next = next e

-- another's value stays
pub value_other : (id : Text) (u : Uses) (x : Text × Text) → bytes_eq x.0 id ≡ false → value_of id (u ++ x ∷ []) ≡ value_of id u
value_other id u x e = value_push id u x ∙ ap (λ (b : Bool). if was_used id u then value_of id u else if b then Some x.1 else None) e ∙ go (was_used id u) refl
  where
    go : (b : Bool) → was_used id u ≡ b → (if b then value_of id u else None) ≡ value_of id u
    go true h = refl
    go false h = sym (value_none id u h)

pub value_new : (id : Text) (u : Uses) (x : Text × Text) → was_used id u ≡ false → bytes_eq x.0 id ≡ true → value_of id (u ++ x ∷ []) ≡ Some x.1
value_new id u x none e = value_push id u x ∙ ap₂ (λ (a b : Bool). if a then value_of id u else if b then Some x.1 else None) none e
