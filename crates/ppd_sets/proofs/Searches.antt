-- A search through a list, by what is left of it.
use Rattle.std.specs.Option.{option_or}
use Rattle.std.proofs.Common.{◌≡◌, ℕ, zero, suc, ◌+◌, ◌<◌, ◌≤◌, List, [], ◌∷◌, true, false, Option, refl, ap, arith, ◌∙◌, length, get_or, drop}
use Rattle.std.specs.Prelude.{nat_eq, if◌then◌else◌, slice_get}
use Rattle.ppd_sets.specs.Flow.{next_in}

pub split_at : (xs : List ℕ) (i : ℕ) → i < length xs → drop i xs ≡ get_or xs i 0 ∷ drop (i + 1) xs
split_at [] i h = absurd (omega arith)
split_at (x ∷ xs) zero h = refl
split_at (x ∷ xs) (suc i) h = let e : suc (i + 1) ≡ suc i + 1 = omega arith in split_at xs i (omega arith) ∙ ap (λ k. get_or xs i 0 ∷ drop k (x ∷ xs)) e

pub nothing_left : (xs : List ℕ) (i : ℕ) → length xs ≤ i → drop i xs ≡ []
nothing_left [] zero h = refl
nothing_left [] (suc i) h = refl
nothing_left (x ∷ xs) zero h = absurd (omega arith)
nothing_left (x ∷ xs) (suc i) h = nothing_left xs i (omega arith)

pub next_here : (xs : List ℕ) (i s : ℕ) (after : Option ℕ) → i < length xs → nat_eq (get_or xs i 0) s ≡ true → next_in (drop i xs) s after ≡ option_or (slice_get (drop (i + 1) xs) 0) after
next_here xs i s after h e = ap (λ ys. next_in ys s after) (split_at xs i h) ∙ ap (λ b. if b then option_or (slice_get (drop (i + 1) xs) 0) after else next_in (drop (i + 1) xs) s after) e

pub next_on : (xs : List ℕ) (i s : ℕ) (after : Option ℕ) → i < length xs → nat_eq (get_or xs i 0) s ≡ false → next_in (drop i xs) s after ≡ next_in (drop (i + 1) xs) s after
next_on xs i s after h e = ap (λ ys. next_in ys s after) (split_at xs i h) ∙ ap (λ b. if b then option_or (slice_get (drop (i + 1) xs) 0) after else next_in (drop (i + 1) xs) s after) e
