-- Which activation a spot of an event is of.
use Rattle.std.proofs.Common.{◌≡◌, ℕ, ◌+◌, ◌<◌, ℤ, Bool, true, false, ◌&&◌, ◌||◌, List, [], ◌∷◌, refl, ap, ap₂, sym, ◌∙◌, arith, length, true≢false, eq-eqb, eqb-true}
use Rattle.std.specs.List.{list_any, range_with_len}
use Rattle.std.specs.Prelude.{nat_eq}
use Rattle.ppd_sem.specs.declared.event.Access.{Access}
use Rattle.ppd_sem.specs.declared.event.Spot.{Spot}
use Rattle.ppd_sem.specs.declared.event.Spot.TheVariants.{Local, Shared}
use Rattle.ppd_model.specs.LocalTags.{is_cell}
use Rattle.ppd_model.specs.NearIntervals.{is_in}
use Rattle.ppd_graph.specs.Locals.{is_local}
use Rattle.ppd_sem.specs.Reads.{local_accesses}

pub not_eq : (a b : ℕ) → (a ≡ b → ⊥) → nat_eq a b ≡ false
not_eq a b h = by (nat_eq a b) refl
  where
    by : (x : Bool) → nat_eq a b ≡ x → x ≡ false
    by false e = refl
    by true e = absurd (h (eqb-true a b e))

pub same_test : (a b c d : ℕ) → (a ≡ b → c ≡ d) → (c ≡ d → a ≡ b) → nat_eq a b ≡ nat_eq c d
same_test a b c d f g = by (nat_eq c d) refl
  where
    by : (x : Bool) → nat_eq c d ≡ x → nat_eq a b ≡ x
    by true e = eq-eqb a b (g (eqb-true c d e))
    by false e = not_eq a b (λ h. true≢false (sym (eq-eqb c d (f h)) ∙ e))

-- the own activation of the interval is number a, one that it calls has the next number
pub cell_at : (a fr f c : ℕ) (spot : Spot) → is_cell fr (a + 1 + fr) (a + f) c spot ≡ is_local f c spot
cell_at a fr f c (Local g d) =
    ap₂ (λ x y. x && y)
    (same_test (a + f + fr + 1) (a + 1 + fr + g) f g (λ e. omega (arith, e)) (λ e. omega (arith, e)))
    (same_test d c c d sym sym)
cell_at a fr f c (Shared d) = refl

pub cell_below : (a fr k c : ℕ) (spot : Spot) → k < a → is_cell fr (a + 1 + fr) k c spot ≡ false
cell_below a fr k c (Local g d) lt =
    ap (λ x. x && nat_eq d c) (not_eq (k + fr + 1) (a + 1 + fr + g) (λ e. omega (arith, e, lt)))
cell_below a fr k c (Shared d) lt = refl

pub any_same : {A : Type 0} (f g : A → Bool) (xs : List A) → ((x : A) → f x ≡ g x) → list_any f xs ≡ list_any g xs
any_same f g [] h = refl
any_same f g (x ∷ xs) h = ap₂ (λ a b. a || b) (h x) (any_same f g xs h)

pub any_none : {A : Type 0} (f : A → Bool) (xs : List A) → ((x : A) → f x ≡ false) → list_any f xs ≡ false
any_none f [] h = refl
any_none f (x ∷ xs) h = ap₂ (λ a b. a || b) (h x) (any_none f xs h)

-- a parameter is a cell that the call writes
pub passed_is : (b c : ℕ) (vs : List ℤ) → list_any (λ (a : Access). is_local 1 c a.spot) (local_accesses 1 b vs)
    ≡ is_in c (range_with_len b (length vs))
passed_is b c [] = refl
passed_is b c (v ∷ vs) = ap (λ x. nat_eq c b || x) (passed_is (b + 1) c vs)
