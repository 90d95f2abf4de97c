-- Values with the items that they are of, which rise, and those between two places.
use Rattle.std.specs.Prelude.{ℕ, ◌<◌, nat_eq, nat_lt, Bool, false, not, ◌&&◌, List, [], ◌∷◌, ◌++◌, filter, Option, Some, None, ⊤, if◌then◌else◌}

-- the item stands from one place to before another
abbrev pub is_between : ℕ → ℕ → ℕ → Bool
is_between from to n = not (nat_lt n from) && nat_lt n to

module _ {A : Type 0} where
  -- the last of these, which begin with x
  abbrev pub last_or : A → List A → A
  last_or x [] = x
  last_or x (y ∷ ys) = last_or y ys

  -- the last one
  abbrev pub last_of : List A → Option A
  last_of [] = None
  last_of (x ∷ xs) = Some (last_or x xs)

module _ {A : Type 0} where
  -- those from one place to before another
  abbrev pub entries_between : ℕ → ℕ → List (ℕ × A) → List (ℕ × A)
  entries_between from to xs = filter (λ x. is_between from to x.0) xs

  -- each is of an item before item n
  abbrev pub AllBefore : ℕ → List (ℕ × A) → Type 0
  AllBefore n [] = ⊤
  AllBefore n (x ∷ xs) = (x.0 < n) × AllBefore n xs

  -- this one is there, of item n
  abbrev pub is_of : ℕ → Option (ℕ × A) → Bool
  is_of n None = false
  is_of n (Some x) = nat_eq x.0 n

  -- with this value of item n, unless it has one
  abbrev pub noted : ℕ → A → List (ℕ × A) → List (ℕ × A)
  noted n v xs = if is_of n (last_of xs) then xs else xs ++ (n, v) ∷ []
