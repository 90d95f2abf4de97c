-- Looking up a name in maps, the last map first.
use Rattle.std.proofs.Common.{◌≡◌, refl, sym, ap, ◌∙◌, ℕ, ◌+◌, ◌<◌, ◌≤◌, ◌-◌, arith, Bool, true, false, cond, List, [], ◌∷◌, ◌++◌, map, reverse, take, length, get_or, set, zero, suc, Option, Some, nat_eq, Vec, is_some, if◌then◌else◌}
use Rattle.std.specs.Cmp.Lexicographic.{pointwise}
use Rattle.std.specs.Map.{lookup}
use Rattle.std.proofs.lemmas.List.{take_more, map-append, reverse-append, length-reverse, length-map}
use Rattle.std.proofs.lemmas.Bool.{true≢false}
use Rattle.indexmap.specs.IndexMap.{IndexMap, get_by, insert_entry}
use Rattle.ppd_check_names.specs.Names.{Meaning, Scope, meaning, scope_of, declare, in_innermost}
use Rattle.ppd_parse.specs.Front.{looked_up}
use Rattle.std.specs.Option.{option_or}

declare_last : (s : Scope) (x : List ℕ) (v : Meaning) → is_some (looked_up s x) ≡ false → s ++ (x, v) ∷ [] ≡ declare x v s
declare_last s x v h = go (is_some (looked_up s x)) h
  where
    go : (b : Bool) → b ≡ false → s ++ (x, v) ∷ [] ≡ (if b then s else s ++ (x, v) ∷ [])
    go false e = refl
    go true e = absurd (true≢false e)

innermost_push : (g : Scope → Scope) (l : List Scope) (z : Scope) → 0 < length l → in_innermost g (l ++ z ∷ []) ≡ in_innermost g l ++ z ∷ []
innermost_push g [] z h = absurd (omega (arith, h))
innermost_push g (s ∷ ss) z h = refl

module _ {A : Type 0} where
  abbrev pub is_key : List ℕ → Vec ℕ A → Bool
  is_key x k = pointwise nat_eq x k.items

  found_lookup : (es : List (Vec ℕ A × Meaning)) (x : List ℕ) → looked_up (map (λ e. (e.0.items, e.1)) es) x ≡ lookup (is_key x) es
  found_lookup [] x = refl
  found_lookup (e ∷ es) x = ap (λ o. cond (is_key x e.0) (Some e.1) o) (found_lookup es x)

  found_get : {S : Type 0} (m : IndexMap (Vec ℕ A) Meaning S) (x : List ℕ) → looked_up (scope_of m) x ≡ get_by (is_key x) m
  found_get m x = found_lookup m.entries x

  -- what a map answers is what its scope says
  pub found_told : {S : Type 0} (m : IndexMap (Vec ℕ A) Meaning S) (x : List ℕ) (o p : Option Meaning) → p ≡ o → o ≡ get_by (is_key x) m → p ≡ looked_up (scope_of m) x
  found_told m x o p e value = e ∙ value ∙ sym (found_get m x)

  -- the last of the first n maps decides, or else the maps before it
  pub meaning_at : {S : Type 0} (ms : List (IndexMap (Vec ℕ A) Meaning S)) (x : List ℕ) (n : ℕ) (m : IndexMap (Vec ℕ A) Meaning S) (o : Option Meaning) → 0 < n → n ≤ length ms
      → m ≡ get_or ms (n - 1) m → o ≡ get_by (is_key x) m
      → meaning (reverse (map scope_of (take n ms))) x ≡ option_or o (meaning (reverse (map scope_of (take (n - 1) ms))) x)
  meaning_at ms x n m o positive within is value =
      let i = n - 1 in
      let back : i + 1 ≡ n = omega arith in
      let below : i < length ms = omega arith in
      ap (λ k. meaning (reverse (map scope_of (take k ms))) x) (sym back)
      ∙ ap (λ l. meaning (reverse (map scope_of l)) x) (take_more ms i m below)
      ∙ ap (λ d. meaning (reverse (map scope_of (take i ms ++ d ∷ []))) x) (sym is)
      ∙ ap (λ l. meaning (reverse l) x) (map-append scope_of (take i ms) (m ∷ []))
      ∙ ap (λ l. meaning l x) (reverse-append (map scope_of (take i ms)) (scope_of m ∷ []))
      ∙ ap (λ o. option_or o (meaning (reverse (map scope_of (take i ms))) x)) (found_get m x ∙ sym value)

  -- a name that is not there goes last
  insert_last : (eq : Vec ℕ A → Vec ℕ A → Bool) → ((a b : Vec ℕ A) → eq a b ≡ is_key a.items b) → (es : List (Vec ℕ A × Meaning)) (k : Vec ℕ A) (v : Meaning)
      → is_some (lookup (is_key k.items) es) ≡ false → insert_entry eq es k v ≡ es ++ (k, v) ∷ []
  insert_last eq same [] k v h = refl
  insert_last eq same (e ∷ es) k v h = go (eq k e.0) (same k e.0) (λ g. insert_last eq same es k v g)
    where
      go : (b : Bool) → b ≡ is_key k.items e.0 → (is_some (lookup (is_key k.items) es) ≡ false → insert_entry eq es k v ≡ es ++ (k, v) ∷ [])
          → (if b then (e.0, v) ∷ es else e ∷ insert_entry eq es k v) ≡ e ∷ (es ++ (k, v) ∷ [])
      go true is rest = absurd (true≢false (ap (λ b. is_some (cond b (Some e.1) (lookup (is_key k.items) es))) is ∙ h))
      go false is rest = ap (λ l. e ∷ l) (rest (ap (λ b. is_some (cond b (Some e.1) (lookup (is_key k.items) es))) is ∙ h))

  pub declare_new : {S : Type 0} (eq : Vec ℕ A → Vec ℕ A → Bool) → ((a b : Vec ℕ A) → eq a b ≡ is_key a.items b) → (m n : IndexMap (Vec ℕ A) Meaning S) (k : Vec ℕ A) (x : List ℕ) (v : Meaning)
      → k.items ≡ x → is_some (looked_up (scope_of m) x) ≡ false → n.entries ≡ insert_entry eq m.entries k v → scope_of n ≡ declare x v (scope_of m)
  declare_new eq same m n k x v is h e =
      let none : is_some (lookup (is_key k.items) m.entries) ≡ false = ap (λ y. is_some (lookup (is_key y) m.entries)) is ∙ sym (ap is_some (found_lookup m.entries x)) ∙ h in
      ap (λ l. map (λ e. (e.0.items, e.1)) l) (e ∙ insert_last eq same m.entries k v none)
      ∙ map-append (λ e. (e.0.items, e.1)) m.entries ((k, v) ∷ [])
      ∙ ap (λ y. scope_of m ++ (y, v) ∷ []) is
      ∙ declare_last (scope_of m) x v h

  -- a change of the last map is one of the innermost scope
  pub last_set : {S : Type 0} (g : Scope → Scope) (ms : List (IndexMap (Vec ℕ A) Meaning S)) (n : ℕ) (y d : IndexMap (Vec ℕ A) Meaning S) → n + 1 ≡ length ms
      → scope_of y ≡ g (scope_of (get_or ms n d)) → reverse (map scope_of (set ms n y)) ≡ in_innermost g (reverse (map scope_of ms))
  last_set g [] n y d h e = absurd (omega (arith, h))
  last_set g (x ∷ []) zero y d h e = ap (λ s. s ∷ []) e
  last_set g (x ∷ []) (suc n) y d h e = absurd (omega (arith, h))
  last_set g (x ∷ (x' ∷ xs)) zero y d h e = absurd (omega (arith, h))
  last_set g (x ∷ (x' ∷ xs)) (suc n) y d h e =
      let long : length (reverse (map scope_of (x' ∷ xs))) ≡ length (x' ∷ xs) = length-reverse (map scope_of (x' ∷ xs)) ∙ length-map (x' ∷ xs) scope_of in
      let rest : reverse (map scope_of (set (x' ∷ xs) n y)) ≡ in_innermost g (reverse (map scope_of (x' ∷ xs))) = last_set g (x' ∷ xs) n y d (omega (arith, h)) e in
      reverse-append (scope_of x ∷ []) (map scope_of (set (x' ∷ xs) n y))
      ∙ ap (λ l. l ++ scope_of x ∷ []) rest
      ∙ sym (innermost_push g (reverse (map scope_of (x' ∷ xs))) (scope_of x) (omega (arith, long)))
      ∙ ap (in_innermost g) (sym (reverse-append (scope_of x ∷ []) (map scope_of (x' ∷ xs))))
