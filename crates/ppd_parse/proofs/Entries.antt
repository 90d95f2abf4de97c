-- The first entry of a table of this text, by its position.
use Rattle.std.proofs.Common.{◌≡◌, ◌<◌, ℕ, zero, suc, List, [], ◌∷◌, length, Bool, true, false, cond, Option, Some, None, map, refl, ◌∙◌, ap, arith, nat_lt, not, get_or, ◌+◌}
use Rattle.std.specs.List.{position, position_or_len}
use Rattle.std.specs.Str.{bytes_eq}
use Rattle.std.proofs.lemmas.Bool.Decides.{nat_tests}
use Rattle.std.proofs.lemmas.List.Quantifiers.{position-Some}
use Rattle.ppd_parse.specs.declared.token.Kind.{Kind}
use Rattle.ppd_parse.specs.Front.{looked_up}

module _ {X : Type 0} (text : List ℕ) (name : X → List ℕ) (kind : X → Kind) where
  abbrev test : X → Bool
  test x = bytes_eq text (name x)

  -- the kind of the first entry of this text
  abbrev kind_at : List X → Option Kind
  kind_at xs = looked_up (map (λ x. (name x, kind x)) xs) text

  by_first : (x : X) (xs : List X) (b : Bool) → test x ≡ b → kind_at (x ∷ xs) ≡ cond b (Some (kind x)) (kind_at xs)
  by_first x xs b h = ap (λ t. cond t (Some (kind x)) (kind_at xs)) h

  first_at : (xs : List X) (i : ℕ) (d : X) → i < length xs → test (get_or xs i d) ≡ true → ((k : ℕ) → k < i → test (get_or xs k d) ≡ false) → kind_at xs ≡ Some (kind (get_or xs i d))
  first_at [] i d lt h none = absurd (omega (arith, lt))
  first_at (x ∷ xs) zero d lt h none = by_first x xs true h
  first_at (x ∷ xs) (suc i) d lt h none = by_first x xs false (none 0 (omega arith)) ∙ first_at xs i d (omega (arith, lt)) h (λ k l. none (suc k) (omega (arith, l)))

  pub found : (xs : List X) (i : ℕ) (d : X) → position test xs ≡ Some i → kind_at xs ≡ Some (kind (get_or xs i d))
  found xs i d e = let f = position-Some test xs i d e in first_at xs i d f.0 f.1 f.2

  past : (xs : List X) → nat_lt (position_or_len test xs) (length xs) ≡ false → kind_at xs ≡ None
  past [] h = refl
  past (x ∷ xs) h = go (test x) refl h (past xs)
    where
      go : (b : Bool) → test x ≡ b → nat_lt (cond (not b) (1 + position_or_len test xs) 0) (length (x ∷ xs)) ≡ false → (nat_lt (position_or_len test xs) (length xs) ≡ false → kind_at xs ≡ None) → kind_at (x ∷ xs) ≡ None
      go true e h more = absurd (grind (arith, nat_tests))
      go false e h more = by_first x xs false e ∙ more (grind (arith, nat_tests))

  pub missed : (xs : List X) → position test xs ≡ None → kind_at xs ≡ None
  missed xs e = go (nat_lt (position_or_len test xs) (length xs)) refl e
    where
      go : (b : Bool) → nat_lt (position_or_len test xs) (length xs) ≡ b → cond b (Some (position_or_len test xs)) None ≡ None → kind_at xs ≡ None
      go true h e = cc
      go false h e = past xs h
