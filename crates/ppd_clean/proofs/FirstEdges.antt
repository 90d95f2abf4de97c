-- A test that holds of the edges before one in its process holds of some edge in a race just where it holds of some
-- first one.
use Rattle.std.proofs.Common.{◌≡◌, ℕ, ◌<◌, ◌≤◌, Bool, true, false, ◌&&◌, ◌||◌, List, [], ◌∷◌, Option, Some, None, inl, inr, ◌⊎◌, refl, sym, subst, arith, eqb-true, eq-eqb, true≢false, if◌then◌else◌}
use Rattle.std.proofs.lemmas.Bool.{leb-true, leb-false, or_left, or_right}
use Rattle.std.proofs.lemmas.Option.{none-some}
use Rattle.std.specs.List.{flat_map, list_any, range_with_len}
use Rattle.std.specs.Prelude.{fold, nat_eq, nat_le}
use Rattle.law_clean.specs.Pasts.{is_raced}
use Rattle.law_clean.proofs.Ordered.{any_in, in_flat_map}
use Rattle.law_clean.proofs.PastRaces.{both, edge_of_race, either, race_of_edge}
use Rattle.law_clean.proofs.PastsGrow.{any_found}
use Rattle.law_flow.proofs.Edges.Sources.Members.{in_cases, in_either, no_member}
use Rattle.ppd_ast.proofs.Those.{both as same_tests}
use Rattle.ppd_clean.specs.Firsts.{edge_if, firsts_of, least_of, lesser, lesser_if, with_race}
use Rattle.ppd_model.specs.declared.graph.EdgeId.{EdgeId}
use Rattle.ppd_model.specs.declared.graph.Race.{Race}
use Rattle.ppd_model.specs.HappenedBefore.{edge}
use Rattle.ppd_model.proofs.Changes.{some}
use Rattle.ppd_model.proofs.Tested.{In, from_zero, here}
use Rattle.law_clean.proofs.PastWords.{is_of_race}

-- ---- the lesser of two

-- an edge that is not after this one
abbrev Under : Option ℕ → ℕ → Type 0
Under o i = (m : ℕ) × (o ≡ Some m) × (m ≤ i)

lesser_new : (o : Option ℕ) (i : ℕ) → Under (lesser o i) i
lesser_new None i = (i, refl, omega arith)
lesser_new (Some m) i = by (nat_le m i) refl
  where
    by : (b : Bool) → nat_le m i ≡ b → Under (if b then Some m else Some i) i
    by true e = (m, refl, leb-true m i e)
    by false e = (i, refl, omega arith)

lesser_old : (o : Option ℕ) (i k : ℕ) → Under o k → Under (lesser o i) k
lesser_old None i k u = absurd (none-some u.0 u.1)
lesser_old (Some m) i k u = by (nat_le m i) refl
  where
    below : m ≤ k
    below = let e : m ≡ u.0 = some u.1 in let le = u.2 in omega (arith, e, le)

    by : (b : Bool) → nat_le m i ≡ b → Under (if b then Some m else Some i) k
    by true e = (m, refl, below)
    by false e = (i, refl, let lt : i < m = leb-false m i e in let le = below in omega (arith, lt, le))

lesser_is : (o : Option ℕ) (i m : ℕ) → lesser o i ≡ Some m → (o ≡ Some m) ⊎ (i ≡ m)
lesser_is None i m e = inr (some e)
lesser_is (Some k) i m e = by (nat_le k i) e
  where
    by : (b : Bool) → (if b then Some k else Some i) ≡ Some m → (Some k ≡ Some m) ⊎ (i ≡ m)
    by true f = inl f
    by false f = inr (some f)

if_new : (b : Bool) (o : Option ℕ) (i : ℕ) → b ≡ true → Under (lesser_if b o i) i
if_new true o i e = lesser_new o i
if_new false o i e = absurd (true≢false (sym e))

if_old : (b : Bool) (o : Option ℕ) (i k : ℕ) → Under o k → Under (lesser_if b o i) k
if_old true o i k u = lesser_old o i k u
if_old false o i k u = u

if_is : (b : Bool) (o : Option ℕ) (i m : ℕ) → lesser_if b o i ≡ Some m → (o ≡ Some m) ⊎ ((b ≡ true) × (i ≡ m))
if_is true o i m e = elim (lesser_is o i m e) [ inl old ↦ inl old | inr new ↦ inr (refl, new) ]
if_is false o i m e = inl e

-- ---- the least edge of a process

module _ (q : ℕ) where
  with_old : (o : Option ℕ) (r : Race) (k : ℕ) → Under o k → Under (with_race q o r) k
  with_old o r k u = if_old (nat_eq r.q q) (lesser_if (nat_eq r.p q) o r.i) r.j k (if_old (nat_eq r.p q) o r.i k u)

  with_new : (o : Option ℕ) (r : Race) (e : ℕ) → is_of_race (edge q e) r ≡ true → Under (with_race q o r) e
  with_new o r e h = elim (either (nat_eq r.p q && nat_eq r.i e) (nat_eq r.q q && nat_eq r.j e) h) [
    | inl first ↦
        let b = both (nat_eq r.p q) (nat_eq r.i e) first in
        if_old (nat_eq r.q q) (lesser_if (nat_eq r.p q) o r.i) r.j e
        (subst (λ z. Under (lesser_if (nat_eq r.p q) o r.i) z) (eqb-true r.i e b.1) (if_new (nat_eq r.p q) o r.i b.0))
    | inr second ↦
        let b = both (nat_eq r.q q) (nat_eq r.j e) second in
        subst (λ z. Under (with_race q o r) z) (eqb-true r.j e b.1) (if_new (nat_eq r.q q) (lesser_if (nat_eq r.p q) o r.i) r.j b.0)
  ]

  with_is : (o : Option ℕ) (r : Race) (m : ℕ) → with_race q o r ≡ Some m → (o ≡ Some m) ⊎ (is_of_race (edge q m) r ≡ true)
  with_is o r m e = elim (if_is (nat_eq r.q q) (lesser_if (nat_eq r.p q) o r.i) r.j m e) [
    | inr second ↦ inr (or_right (nat_eq r.p q && nat_eq r.i m) (nat_eq r.q q && nat_eq r.j m) (all (nat_eq r.q q) (nat_eq r.j m) second.0 (eq-eqb r.j m second.1)))
    | inl before ↦ elim (if_is (nat_eq r.p q) o r.i m before) [
      | inl old ↦ inl old
      | inr first ↦ inr (or_left (nat_eq r.p q && nat_eq r.i m) (nat_eq r.q q && nat_eq r.j m) (all (nat_eq r.p q) (nat_eq r.i m) first.0 (eq-eqb r.i m first.1)))
    ]
  ]
    where
      all : (a b : Bool) → a ≡ true → b ≡ true → (a && b) ≡ true
      all true b e f = f
      all false b e f = absurd (true≢false (sym e))

  from_old : (rs : List Race) (o : Option ℕ) (k : ℕ) → Under o k → Under (fold (with_race q) o rs) k
  from_old [] o k u = u
  from_old (r ∷ rs) o k u = from_old rs (with_race q o r) k (with_old o r k u)

  -- each edge of the process in a race has one that is not after it
  from_new : (rs : List Race) (o : Option ℕ) (e : ℕ) → is_raced rs (edge q e) ≡ true → Under (fold (with_race q) o rs) e
  from_new [] o e h = absurd (true≢false (sym h))
  from_new (r ∷ rs) o e h = elim (either (is_of_race (edge q e) r) (is_raced rs (edge q e)) h) [
    | inl now ↦ from_old rs (with_race q o r) e (with_new o r e now)
    | inr later ↦ from_new rs (with_race q o r) e later
  ]

  from_is : (rs : List Race) (o : Option ℕ) (m : ℕ) → fold (with_race q) o rs ≡ Some m → (o ≡ Some m) ⊎ (is_raced rs (edge q m) ≡ true)
  from_is [] o m e = inl e
  from_is (r ∷ rs) o m e = elim (from_is rs (with_race q o r) m e) [
    | inr later ↦ inr (or_right (is_of_race (edge q m) r) (is_raced rs (edge q m)) later)
    | inl before ↦ elim (with_is o r m before) [
      | inl old ↦ inl old
      | inr now ↦ inr (or_left (is_of_race (edge q m) r) (is_raced rs (edge q m)) now)
    ]
  ]

-- ---- of all processes

out_of : {A B : Type 0} (f : A → List B) (b : B) (xs : List A) → In b (flat_map f xs) → (a : A) × In b (f a)
out_of f b [] m = absurd (no_member m)
out_of f b (x ∷ xs) m = elim (in_either b (f x) (flat_map f xs) m) [
  | inl now ↦ (x, now)
  | inr later ↦ out_of f b xs later
]

-- each of them is in a race
pub first_raced : (rs : List Race) (n : ℕ) (a : EdgeId) → In a (firsts_of rs n) → is_raced rs a ≡ true
first_raced rs n a m =
    let r = out_of (λ q. edge_if q (least_of rs q)) a (range_with_len 0 n) m in by r.0 (least_of rs r.0) refl r.1
  where
    by : (q : ℕ) (o : Option ℕ) → least_of rs q ≡ o → In a (edge_if q o) → is_raced rs a ≡ true
    by q None e k = absurd (no_member k)
    by q (Some i) e k = elim (in_cases a (edge q i) [] k) [
      | inr more ↦ absurd (no_member more)
      | inl same ↦ elim (from_is q rs None i e) [
        | inl none ↦ absurd (none-some i none)
        | inr raced ↦ subst (λ z. is_raced rs z ≡ true) (sym same) raced
      ]
    ]

-- and each edge in a race, of a process that is there, has one that is not after it
pub has_first : (rs : List Race) (n : ℕ) (a : EdgeId) → a.process < n → is_raced rs a ≡ true
    → (i : ℕ) × In (edge a.process i) (firsts_of rs n) × (i ≤ a.edge)
has_first rs n a lt raced =
    let u = from_new a.process rs None a.edge raced in (
      u.0,
      in_flat_map (λ q. edge_if q (least_of rs q)) a.process (edge a.process u.0) (range_with_len 0 n) (from_zero a.process n lt)
          (subst (λ o. In (edge a.process u.0) (edge_if a.process o)) (sym u.1) here),
      u.2,
    )

-- a test of the edges of races
abbrev pub tests : (EdgeId → Bool) → Race → Bool
tests t r = t (edge r.p r.i) || t (edge r.q r.j)

module _ (rs : List Race) (n : ℕ) (few : (a : EdgeId) → is_raced rs a ≡ true → a.process < n) where
  pub same_any : (t : EdgeId → Bool) → ((a : EdgeId) (i : ℕ) → i ≤ a.edge → t a ≡ true → t (edge a.process i) ≡ true)
      → list_any t (firsts_of rs n) ≡ list_any (λ (r : Race). t (edge r.p r.i) || t (edge r.q r.j)) rs
  same_any t down = same_tests (list_any t (firsts_of rs n)) (list_any (tests t) rs) forth back
    where
      forth : list_any t (firsts_of rs n) ≡ true → list_any (tests t) rs ≡ true
      forth e = let f = any_found t (firsts_of rs n) e in race_of_edge t rs f.0 (first_raced rs n f.0 f.1) f.2

      back : list_any (tests t) rs ≡ true → list_any t (firsts_of rs n) ≡ true
      back e =
          let f = edge_of_race t rs e in
          let i = has_first rs n f.0 (few f.0 f.1) f.1 in
          any_in t (edge f.0.process i.0) (firsts_of rs n) i.1 (down f.0 i.0 i.2 f.2)
