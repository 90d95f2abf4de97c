-- What is read within the limits keeps the depth: how deep statements and the indexes of places stand in one another.
use Rattle.std.proofs.Common.{◌≡◌, refl, sym, ap, ◌∙◌, ℕ, zero, suc, ◌+◌, ◌-◌, ◌≤◌, ◌<◌, max, nat_le, Bool, true, false, ◌&&◌, ◌||◌, List, [], ◌∷◌, arith}
use Rattle.std.specs.Prelude.{⊤}
use Rattle.std.proofs.lemmas.Bool.Decides.{nat_tests}
use Rattle.ppd_ast.specs.declared.limits.TheConstants.{MOST_OPEN}
use Rattle.ppd_parse.specs.declared.symbol.Level.TheVariants as L
use Rattle.ppd_parse.specs.declared.symbol.Rule.{Rule}
use Rattle.ppd_parse.specs.declared.symbol.Rule.TheVariants as R
use Rattle.ppd_parse.specs.declared.symbol.At.{At}
use Rattle.ppd_parse.specs.Grammar.{Shape, leaf, Marked, deeper}
use Rattle.ppd_parse.specs.Language.{Side, source_side, local_side, local_item_side, value_side, place_side, change_side, stmt_side, expr_side, tier, unary_side, Phrase, word, binary, the, ◌·◌, ◌∣◌, many, maybe, unless, opened, measured, made, phrase, Is, token, sign, side, both, left, right, done, more, absent, present, ended, within, counted, grouped, IsProgram}
use Rattle.ppd_parse.specs.Limits.{count_with, KeepLimits}
use Rattle.ppd_check.proofs.Phrases.{and_left, and_right, passes, reads, side_reads}
use Rattle.ppd_check.proofs.Limits.Trees.{levels_of, statement_in, levels_append, levels_forest}

-- What is read keeps the depth.

abbrev DepthsKept : List Marked → Type 0
DepthsKept [] = ⊤
DepthsKept (x ∷ xs) = (x.at.depth ≤ MOST_OPEN) × DepthsKept xs

depths_of : (n : ℕ) (ts : List Marked) → KeepLimits n ts → DepthsKept ts
depths_of n [] h = tt
depths_of n (x ∷ ts) h = (h.0, depths_of (count_with n x) ts h.2)

-- how far the levels of a phrase's trees go past its depth: by one where a counted node may stand outside what is opened
abbrev lift : (Rule → ℕ) → (Side → ℕ) → Phrase → ℕ
lift c s (word k) = 0
lift c s (binary l) = 0
lift c s (the y) = s y
lift c s (f · g) = max (lift c s f) (lift c s g)
lift c s (f ∣ g) = max (lift c s f) (lift c s g)
lift c s (many f) = lift c s f
lift c s (maybe f) = lift c s f
lift c s (unless k) = 0
lift c s (opened f) = lift c s f - 1
lift c s (measured f) = lift c s f
lift c s (made r f) = c r + lift c s f

-- each node reads a token
abbrev solid : Phrase → Bool
solid = passes (λ y. true) (λ r f b. reads f && b)

side_solid : (y : Side) → solid (phrase y) ≡ true
side_solid source_side = refl
side_solid y = refl

record Bounded (c : Rule → ℕ) (extra : ℕ) (reading : Bool) (a : At) (t : List Shape) (rest : List Marked) : Type 0 where
  depths : DepthsKept rest
  bound : levels_of c t ≤ (MOST_OPEN + extra) - a.depth
  near : reading ≡ true → a.depth ≤ MOST_OPEN
  inner : 1 ≤ levels_of c t → a.depth ≤ MOST_OPEN

or_of : (a b : Bool) {n : ℕ} → (a ≡ true → n ≤ MOST_OPEN) → (b ≡ true → n ≤ MOST_OPEN) → (a || b) ≡ true → n ≤ MOST_OPEN
or_of true b h i e = h refl
or_of false b h i e = i e

inner_both : (m n d : ℕ) → (1 ≤ m → d ≤ MOST_OPEN) → (1 ≤ n → d ≤ MOST_OPEN) → 1 ≤ max m n → d ≤ MOST_OPEN
inner_both zero n d h i e = i (omega (arith, e))
inner_both (suc m) n d h i e = h (omega arith)

deeper_depth : (a : At) → (nat_le a.depth MOST_OPEN ≡ true → (deeper a).depth ≡ a.depth + 1) × (nat_le a.depth MOST_OPEN ≡ false → (deeper a).depth ≡ a.depth)
deeper_depth a = (λ e. rw e refl, λ e. rw e refl)

none_far : (depth extra m : ℕ) → (1 ≤ m → depth ≤ MOST_OPEN) → MOST_OPEN < depth → m ≤ (MOST_OPEN + (extra - 1)) - depth
none_far depth extra zero h far = omega arith
none_far depth extra (suc m) h far = absurd (omega (arith, far, h (omega arith)))

bounded_within : (c : Rule → ℕ) (extra : ℕ) (reading : Bool) (a : At) (t : List Shape) (rest : List Marked) → Bounded c extra reading (deeper a) t rest → Bounded c (extra - 1) reading a t rest
bounded_within c extra reading a t rest b = by (nat_le a.depth MOST_OPEN) refl
  where
    by : (test : Bool) → nat_le a.depth MOST_OPEN ≡ test → Bounded c (extra - 1) reading a t rest
    by true e =
        let d : (deeper a).depth ≡ a.depth + 1 = (deeper_depth a).0 e in
        record { depths = b.depths; bound = omega (arith, b.bound, d); near = λ i. omega (arith, b.near i, d); inner = λ i. omega (arith, b.inner i, d) }
    by false e =
        let d : (deeper a).depth ≡ a.depth = (deeper_depth a).1 e in
        let far : MOST_OPEN < a.depth = grind (arith, nat_tests) in
        record { depths = b.depths; bound = none_far a.depth extra (levels_of c t) (λ i. omega (arith, b.inner i, d)) far; near = λ i. omega (arith, b.near i, d); inner = λ i. omega (arith, b.inner i, d) }

module _ (c : Rule → ℕ) (s : Side → ℕ) (few : (r : Rule) → c r ≤ 1) (lifts : (y : Side) → lift c s (phrase y) ≡ s y) where
  bounded_none : (f : Phrase) (a : At) (rest : List Marked) → DepthsKept rest → reads f ≡ false → Bounded c (lift c s f) (reads f) a [] rest
  bounded_none f a rest h e = record { depths = h; bound = omega arith; near = λ i. absurd (differ (sym e ∙ i)); inner = λ i. absurd (omega arith) }
    where
      differ : false ≡ true → ⊥
      differ x = cc

  bounded_token : (a : At) (x : Marked) (rest : List Marked) → x.at ≡ a → DepthsKept (x ∷ rest) → Bounded c 0 true a (leaf x.token ∷ []) rest
  bounded_token a x rest e h =
      let same : x.at.depth ≡ a.depth = ap (λ (b : At). b.depth) e in
      record { depths = h.1; bound = omega arith; near = λ i. omega (arith, h.0, same); inner = λ i. absurd (omega arith) }

  bounded : {f : Phrase} {a : At} {t : List Shape} {ts rest : List Marked} → Is f a ts t rest → solid f ≡ true → DepthsKept ts → Bounded c (lift c s f) (reads f) a t rest
  bounded (token {a = a} {x = x} {rest = rest} e m) o h = bounded_token a x rest m h
  bounded (sign {a = a} {x = x} {rest = rest} e m) o h = bounded_token a x rest m h
  bounded (side {y} {a} {t} {rest = rest} d) o h =
      let b = bounded d (side_solid y) h in
      record { depths = b.depths; bound = omega (arith, b.bound, lifts y); near = λ i. b.near (side_reads y); inner = b.inner }
  bounded (both {f} {g} {a} {t} {u} {mid = mid} {rest = rest} d e) o h =
      let b = bounded d (and_left (solid f) (solid g) o) h in
      let k = bounded e (and_right (solid f) (solid g) o) b.depths in
      record {
        depths = k.depths;
        bound = omega (arith, b.bound, k.bound, levels_append c t u);
        near = or_of (reads f) (reads g) b.near k.near;
        inner = λ i. inner_both (levels_of c t) (levels_of c u) a.depth b.inner k.inner (omega (arith, i, levels_append c t u));
      }
  bounded (left {f} {g} {a} d) o h =
      let b = bounded d (and_left (solid f) (solid g) o) h in
      record { depths = b.depths; bound = omega (arith, b.bound); near = λ i. b.near (and_left (reads f) (reads g) i); inner = b.inner }
  bounded (right {f} {g} {a} d) o h =
      let b = bounded d (and_right (solid f) (solid g) o) h in
      record { depths = b.depths; bound = omega (arith, b.bound); near = λ i. b.near (and_right (reads f) (reads g) i); inner = b.inner }
  bounded (done {f} {a} {ts}) o h = bounded_none (many f) a ts h refl
  bounded (more {f} {a} {t} {u} d e) o h =
      let b = bounded d o h in
      let k = bounded e o b.depths in
      record { depths = k.depths; bound = omega (arith, b.bound, k.bound, levels_append c t u); near = λ i. k.near i; inner = λ i. inner_both (levels_of c t) (levels_of c u) a.depth b.inner k.inner (omega (arith, i, levels_append c t u)) }
  bounded (absent {f} {a} {ts}) o h = bounded_none (maybe f) a ts h refl
  bounded (present {f} d) o h =
      let b = bounded d o h in
      record { depths = b.depths; bound = b.bound; near = λ i. absurd cc; inner = b.inner }
  bounded (ended {k} {a} {ts} x) o h = bounded_none (unless k) a ts h refl
  bounded (within {f} {a} {t} {rest = rest} d) o h = bounded_within c (lift c s f) (reads f) a t rest (bounded d o h)
  bounded (counted {f} {a} d) o h =
      let b = bounded d o h in
      record { depths = b.depths; bound = b.bound; near = b.near; inner = b.inner }
  bounded (grouped {r} {f} {a} {t} d) o h =
      let b = bounded d (and_right (reads f) (solid f) o) h in
      let depth : a.depth ≤ MOST_OPEN = b.near (and_left (reads f) (solid f) o) in
      record { depths = b.depths; bound = omega (arith, b.bound, depth, levels_forest c t, few r); near = b.near; inner = λ i. depth }

-- Statements in statements, and places in the indexes of places.

abbrev pub place_in : Rule → ℕ
place_in R.Place = 1
place_in r = 0

abbrev statement_side : Side → ℕ
statement_side stmt_side = 1
statement_side local_side = 1
statement_side y = 0

abbrev indexed_side : Side → ℕ
indexed_side local_side = 1
indexed_side local_item_side = 1
indexed_side value_side = 1
indexed_side place_side = 1
indexed_side change_side = 1
indexed_side stmt_side = 1
indexed_side expr_side = 1
indexed_side (tier l) = 1
indexed_side unary_side = 1
indexed_side y = 0

statement_few : (r : Rule) → statement_in r ≤ 1
statement_few R.Stmt = omega arith
statement_few r = omega arith

place_few : (r : Rule) → place_in r ≤ 1
place_few R.Place = omega arith
place_few r = omega arith

statement_lifts : (y : Side) → lift statement_in statement_side (phrase y) ≡ statement_side y
statement_lifts (tier L.Product) = refl
statement_lifts y = refl

place_lifts : (y : Side) → lift place_in indexed_side (phrase y) ≡ indexed_side y
place_lifts (tier L.Product) = refl
place_lifts y = refl

-- A program within the limits.

pub statements_program : {ts : List Marked} {f : List Shape} → IsProgram ts f → KeepLimits 0 ts → levels_of statement_in f ≤ MOST_OPEN
statements_program {ts} p h = (bounded statement_in statement_side statement_few statement_lifts p refl (depths_of 0 ts h)).bound

pub places_program : {ts : List Marked} {f : List Shape} → IsProgram ts f → KeepLimits 0 ts → levels_of place_in f ≤ MOST_OPEN
places_program {ts} p h = (bounded place_in indexed_side place_few place_lifts p refl (depths_of 0 ts h)).bound
