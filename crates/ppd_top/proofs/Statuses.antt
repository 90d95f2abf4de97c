-- Statuses that are some of a few.
use Rattle.std.specs.Prelude.{Option, ◌⊎◌, ◌||◌, ◌&&◌, nat_eq, nat_lt}
use Rattle.std.proofs.Common.{◌≡◌, ℕ, ◌<◌, List, [], ◌∷◌, Bool, true, false, arith, inl, inr, refl, subst}
use Rattle.std.proofs.lemmas.Bool.{eqb-false, ltb-true}
use Rattle.ppd_session.specs.Known.{Known}
use Rattle.ppd_top_commands.specs.Output.{Standing, Finished}
use Rattle.ppd_top.proofs.Talked.{IsAny}

abbrev pub IsIn : ℕ → List ℕ → Type 0
IsIn n [] = ⊥
IsIn n (m ∷ ms) = (n ≡ m) ⊎ IsIn n ms

abbrev pub is_among : ℕ → List ℕ → Bool
is_among n [] = false
is_among n (m ∷ ms) = nat_eq n m || is_among n ms

left_false : (a b : Bool) → (a || b) ≡ false → a ≡ false
left_false false b e = refl
left_false true b e = e

right_false : (a b : Bool) → (a || b) ≡ false → b ≡ false
right_false false b e = e
right_false true b e = absurd (cc)

none_of : (n : ℕ) (ms : List ℕ) → is_among n ms ≡ false → IsIn n ms → ⊥
none_of n [] e h = absurd h
none_of n (m ∷ ms) e (inl h) = eqb-false n m (left_false (nat_eq n m) (is_among n ms) e) h
none_of n (m ∷ ms) e (inr h) = none_of n ms (right_false (nat_eq n m) (is_among n ms) e) h

-- a status that is another one
pub other_than : (n status : ℕ) (ms : List ℕ) → is_among n ms ≡ false → status ≡ n → IsIn status ms → ⊥
other_than n status ms e is h = none_of n ms e (subst (λ k. IsIn k ms) is h)

pub finished_in : (old new : Option (List ℕ)) (before now result status : ℕ) (text : List ℕ) → Finished old new before now result status text → IsIn result (status ∷ 4 ∷ [])
finished_in old new before now result status text (inl h) = inl h.0
finished_in old new before now result status text (inr h) = inr (inl h.0)

-- each of these is below 9
abbrev pub are_below : List ℕ → Bool
are_below [] = true
are_below (m ∷ ms) = nat_lt m 9 && are_below ms

left_true : (a b : Bool) → (a && b) ≡ true → a ≡ true
left_true true b e = refl
left_true false b e = absurd (cc)

pub right_true : (a b : Bool) → (a && b) ≡ true → b ≡ true
right_true true b e = e
right_true false b e = absurd (cc)

pub all_below : (n : ℕ) (ms : List ℕ) → are_below ms ≡ true → IsIn n ms → n < 9
all_below n [] e h = absurd h
all_below n (m ∷ ms) e (inl h) = let b = ltb-true m 9 (left_true (nat_lt m 9) (are_below ms) e) in omega (arith, b, h)
all_below n (m ∷ ms) e (inr h) = all_below n ms (right_true (nat_lt m 9) (are_below ms) e) h

-- what asking ends with
pub any_in : (x : Known) (head : List ℕ) (a b : Standing) (status : ℕ) → IsAny x head a b status → IsIn status (0 ∷ 7 ∷ 8 ∷ 3 ∷ 4 ∷ 5 ∷ 6 ∷ [])
any_in x head a b status (inl (inl (inl e))) = inl e
any_in x head a b status (inl (inl (inr (inl e)))) = inr (inl e)
any_in x head a b status (inl (inl (inr (inr e)))) = inr (inr (inl e))
any_in x head a b status (inl (inr e)) = inr (inr (inr (inr (inr (inr (inl e))))))
any_in x head a b status (inr (inl e)) = inr (inr (inr (inl e)))
any_in x head a b status (inr (inr (inl e))) = inr (inr (inr (inr (inl e))))
any_in x head a b status (inr (inr (inr e))) = inr (inr (inr (inr (inr (inl e)))))

-- none is 6
pub but_six : (status : ℕ) → (status ≡ 6 → ⊥) → IsIn status (0 ∷ 7 ∷ 8 ∷ 3 ∷ 4 ∷ 5 ∷ 6 ∷ []) → IsIn status (0 ∷ 7 ∷ 8 ∷ 3 ∷ 4 ∷ 5 ∷ [])
but_six status other (inl e) = inl e
but_six status other (inr (inl e)) = inr (inl e)
but_six status other (inr (inr (inl e))) = inr (inr (inl e))
but_six status other (inr (inr (inr (inl e)))) = inr (inr (inr (inl e)))
but_six status other (inr (inr (inr (inr (inl e))))) = inr (inr (inr (inr (inl e))))
but_six status other (inr (inr (inr (inr (inr (inl e)))))) = inr (inr (inr (inr (inr (inl e)))))
but_six status other (inr (inr (inr (inr (inr (inr (inl e))))))) = absurd (other e)
but_six status other (inr (inr (inr (inr (inr (inr (inr e))))))) = absurd e
