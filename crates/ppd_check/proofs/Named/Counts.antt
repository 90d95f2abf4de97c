-- An accepted source declares no more than the limits allow.
use Rattle.std.proofs.Common.{◌≡◌, refl, sym, ap, subst, ◌∙◌, ℕ, zero, suc, ◌+◌, ◌-◌, ◌<◌, ◌≤◌, arith, Bool, true, false, cond, nat_lt, List, [], ◌∷◌, ◌++◌, map, drop, length, Option, Some, None, ◌⊎◌, inl, inr}
use Rattle.std.specs.Ordering.{is_le, nat_cmp, ordering_then}
use Rattle.std.specs.List.{All, Contains, flat_map, filter, count_by}
use Rattle.std.proofs.lemmas.List.{length-append, length-drop}
use Rattle.std.proofs.lemmas.List.Elements.{All-nil, All-cons, All-weaker, All-contains}
use Rattle.std.proofs.lemmas.Bool.{ltb-false}
use Rattle.ppd_ast.specs.declared.limits.TheConstants.{MOST_STATEMENTS}
use Rattle.ppd_ast.specs.declared.program.Place.{Place}
use Rattle.ppd_check_names.specs.declared.fault.Cause.TheVariants.{TooMany}
use Rattle.ppd_check_names.specs.declared.fault.Limit.{Limit}
use Rattle.ppd_check_names.specs.declared.fault.Limit.TheVariants as L
use Rattle.ppd_check_names.specs.Faults.{at}
use Rattle.ppd_check_names.specs.Syntax.{Name}
use Rattle.ppd_check.proofs.PastMost.{up_to_itself, count_all}
use Rattle.ppd_check.specs.Sources.{past_statements}
use Rattle.ppd_check.proofs.Vocabulary.{is_up_to}
use Rattle.ppd_check_names.specs.Globals.{past}

-- Places in order.

-- a line and a column that are up to others, in words
abbrev IsUpTo : (line column line' column' : ℕ) → Type 0
IsUpTo a b c d = (a < c) ⊎ ((a ≡ c) × (b ≤ d))

said_up : (a b c d : ℕ) → is_le (ordering_then (nat_cmp a c) (nat_cmp b d)) ≡ true → IsUpTo a b c d
said_up a b c d h = grind (arith, h)

up_said : (a b c d : ℕ) → IsUpTo a b c d → is_le (ordering_then (nat_cmp a c) (nat_cmp b d)) ≡ true
up_said a b c d (inl h) = grind (arith, h)
up_said a b c d (inr h) = grind (arith, h)

said_past : (a b c d : ℕ) → is_le (ordering_then (nat_cmp a c) (nat_cmp b d)) ≡ false → (c < a) ⊎ ((a ≡ c) × (d < b))
said_past a b c d h = grind (arith, h)

-- x comes after q, and p does not
up_to_later : (q x p : Place) → is_up_to q x ≡ false → is_up_to q p ≡ true → is_up_to x p ≡ true
up_to_later q x p h i =
    up_said p.line p.column x.line x.column
    (go q.line q.column x.line x.column p.line p.column (said_past x.line x.column q.line q.column h) (said_up p.line p.column q.line q.column i))
  where
    go : (a b c d e f : ℕ) → (a < c) ⊎ ((c ≡ a) × (b < d)) → IsUpTo e f a b → IsUpTo e f c d
    go a b c d e f (inl k) (inl l) = inl (omega (arith, k, l))
    go a b c d e f (inl k) (inr l) = inl (omega (arith, k, l))
    go a b c d e f (inr k) (inl l) = inl (omega (arith, k, l))
    go a b c d e f (inr k) (inr l) = inr (omega (arith, k, l), omega (arith, k, l))

abbrev AreUpTo : Place → List Place → Type 0
AreUpTo q ps = All (λ p. is_up_to q p ≡ true) ps

-- the last of some places
last_place : (x : Place) (ps : List Place) → (q : Place) × Contains (x ∷ ps) q × AreUpTo q (x ∷ ps)
last_place x [] = (x, (zero, omega arith, refl), All-cons (λ p. is_up_to x p ≡ true) x [] (up_to_itself x) (All-nil (λ p. is_up_to x p ≡ true)))
last_place x (y ∷ ys) = go (last_place y ys)
  where
    go : (q : Place) × Contains (y ∷ ys) q × AreUpTo q (y ∷ ys) → (q : Place) × Contains (x ∷ (y ∷ ys)) q × AreUpTo q (x ∷ (y ∷ ys))
    go r = choose (is_up_to r.0 x) refl
      where
        choose : (b : Bool) → is_up_to r.0 x ≡ b → (q : Place) × Contains (x ∷ (y ∷ ys)) q × AreUpTo q (x ∷ (y ∷ ys))
        choose true e =
            let l : r.1.0 < length (y ∷ ys) = r.1.1 in
            (r.0, (suc r.1.0, omega (arith, l), r.1.2), All-cons (λ p. is_up_to r.0 p ≡ true) x (y ∷ ys) e r.2)
        choose false e = (
          x,
          (zero, omega arith, refl),
          All-cons (λ p. is_up_to x p ≡ true) x (y ∷ ys) (up_to_itself x)
              (All-weaker (λ p. is_up_to r.0 p ≡ true) (λ p. is_up_to x p ≡ true) (λ p h. up_to_later r.0 x p e h) (y ∷ ys) r.2),
        )

-- Counts.

none_pass : (t : Place → Bool) (xs : List Place) → filter t xs ≡ [] → All (λ x. t x ≡ false) xs
none_pass t [] h = All-nil (λ x. t x ≡ false)
none_pass t (x ∷ xs) h = go (t x) refl (none_pass t xs)
  where
    go : (b : Bool) → t x ≡ b → (filter t xs ≡ [] → All (λ x. t x ≡ false) xs) → All (λ x. t x ≡ false) (x ∷ xs)
    go true e rest =
        let n : x ∷ filter t xs ≡ [] = sym (ap (λ b. cond b (x ∷ filter t xs) (filter t xs)) e) ∙ h in
        cc
    go false e rest =
        let n : filter t xs ≡ [] = sym (ap (λ b. cond b (x ∷ filter t xs) (filter t xs)) e) ∙ h in
        All-cons (λ x. t x ≡ false) x xs e (rest n)

map_nil : {X Y : Type 0} (f : X → Y) (xs : List X) → map f xs ≡ [] → xs ≡ []
map_nil f [] h = refl
map_nil f (x ∷ xs) h = cc

pub few_statements : (ps : List Place) → past_statements ps ≡ [] → length ps ≤ MOST_STATEMENTS
few_statements [] h = omega arith
few_statements (x ∷ xs) h =
    let ps : List Place = x ∷ xs in
    let top : (q : Place) × Contains ps q × AreUpTo q ps = last_place x xs in
    let none : All (λ q. nat_lt MOST_STATEMENTS (count_by (is_up_to q) ps) ≡ false) ps =
    none_pass (λ q. nat_lt MOST_STATEMENTS (count_by (is_up_to q) ps)) ps (map_nil (λ q. at q (TooMany L.Statements)) (filter (λ q. nat_lt MOST_STATEMENTS (count_by (is_up_to q) ps)) ps) h) in
    let a : count_by (is_up_to top.0) ps ≤ MOST_STATEMENTS =
    ltb-false MOST_STATEMENTS (count_by (is_up_to top.0) ps) (All-contains (λ q. nat_lt MOST_STATEMENTS (count_by (is_up_to q) ps) ≡ false) ps top.0 none top.1) in
    subst (λ n. n ≤ MOST_STATEMENTS) (count_all (is_up_to top.0) ps top.2) a

pub few_names : (n : ℕ) (limit : Limit) (xs : List Name) → past n limit xs ≡ [] → length xs ≤ n
few_names n limit xs h =
    let e : drop n xs ≡ [] = map_nil (λ x. at x.place (TooMany limit)) (drop n xs) h in
    let a : length (drop n xs) ≡ length xs - n = length-drop n xs in
    let b : length (drop n xs) ≡ 0 = ap length e in
    omega (arith, a, b)
