-- The tests of happened-before answer the relations, both ways.
use Rattle.std.proofs.Common.{◌≡◌, ℕ, zero, suc, ◌+◌, ◌<◌, List, [], ◌∷◌, ◌++◌, Option, Some, None, Bool, true, false, refl, ap, sym, subst, arith, eq-eqb, lt-ltb, ltb-true, ne_eqb, ◌&&◌, ◌||◌, length, map, get_or, inl, inr, ◌⊎◌, true≢false, ◌∙◌}
use Rattle.std.specs.Prelude.{IsTrue, is_some, nat_eq, nat_lt, slice_get}
use Rattle.std.specs.List.{range_with_len}
use Rattle.std.proofs.lemmas.Bool.{and_from, and_parts, cases_eq, cond-false, cond-true, or_cases, or_left, or_right}
use Rattle.ppd_ast.specs.declared.program.Program.{Program}
use Rattle.ppd_model.specs.declared.graph.NodeId.{NodeId}
use Rattle.ppd_model.specs.Synchronizations.{Sync, leads_at}
use Rattle.ppd_model.specs.declared.graph.EdgeId.{EdgeId}
use Rattle.ppd_model.specs.HappenedBefore.{Before, EdgeBefore, across as across_to, closed_through, direct, earlier, is_before, is_direct, is_edge_before, node, sync_at, through}
use Rattle.ppd_model.proofs.OrderWords.{is_next, nodes_from}
use Rattle.ppd_model.specs.Laws.{IsTestOfBefore, IsTestOfEdges}

pub data In {A : Type 0} : A → List A → Type 0 where
  here : {x : A} {xs : List A} → In x (x ∷ xs)
  there : {x y : A} {xs : List A} → In x xs → In x (y ∷ xs)

-- what leads to n and on from n leads across it
IsClosedAt : {A : Type 0} → (A → A → Bool) → A → Type 0
IsClosedAt {A} r n = (a b : A) → IsTrue (r a n) → IsTrue (r n b) → IsTrue (r a b)

grows : {A : Type 0} (r : A → A → Bool) (ns : List A) (a b : A) → IsTrue (r a b) → IsTrue (closed_through r ns a b)
grows r [] a b h = h
grows r (n ∷ ns) a b h = or_left (closed_through r ns a b) (closed_through r ns a n && closed_through r ns n b) (grows r ns a b h)

-- one more node: r with the ways across n
across : {A : Type 0} → (A → A → Bool) → A → A → A → Bool
across r n a b = r a b || (r a n && r n b)

to_it : {A : Type 0} (r : A → A → Bool) (n a : A) → IsTrue (across r n a n) → IsTrue (r a n)
unfolding across
to_it r n a h = elim (or_cases (r a n) (r a n && r n n) h) [ inl x ↦ x | inr y ↦ (and_parts (r a n) (r n n) y).0 ]

from_it : {A : Type 0} (r : A → A → Bool) (n b : A) → IsTrue (across r n n b) → IsTrue (r n b)
unfolding across
from_it r n b h = elim (or_cases (r n b) (r n n && r n b) h) [ inl x ↦ x | inr y ↦ (and_parts (r n n) (r n b) y).1 ]

short : {A : Type 0} (r : A → A → Bool) (n a b : A) → IsTrue (r a b) → IsTrue (across r n a b)
unfolding across
short r n a b h = or_left (r a b) (r a n && r n b) h

long : {A : Type 0} (r : A → A → Bool) (n a b : A) → IsTrue (r a n) → IsTrue (r n b) → IsTrue (across r n a b)
unfolding across
long r n a b h k = or_right (r a b) (r a n && r n b) (and_from (r a n) (r n b) h k)

closed_at_it : {A : Type 0} (r : A → A → Bool) (n : A) → IsClosedAt (across r n) n
unfolding IsClosedAt
closed_at_it r n a b h k = long r n a b (to_it r n a h) (from_it r n b k)

cases : {A : Type 0} (r : A → A → Bool) (n a b : A) → IsTrue (across r n a b) → IsTrue (r a b) ⊎ (IsTrue (r a n) × IsTrue (r n b))
unfolding across
cases r n a b h = elim (or_cases (r a b) (r a n && r n b) h) [ inl x ↦ inl x | inr y ↦ inr (and_parts (r a n) (r n b) y) ]

still_closed : {A : Type 0} (r : A → A → Bool) (n s : A) → IsClosedAt r s → IsClosedAt (across r n) s
unfolding IsClosedAt
still_closed r n s c a b h k =
    elim (cases r n a s h) [
      | inl as' ↦ elim (cases r n s b k) [
        | inl sb ↦ short r n a b (c a b as' sb)
        | inr snb ↦ long r n a b (c a n as' snb.0) snb.1
      ]
      | inr ans ↦ elim (cases r n s b k) [
        | inl sb ↦ long r n a b ans.0 (c n b ans.1 sb)
        | inr snb ↦ long r n a b ans.0 snb.1
      ]
    ]

closed_in : {A : Type 0} (r : A → A → Bool) (ns : List A) (s : A) → In s ns → IsClosedAt (closed_through r ns) s
unfolding across
closed_in {A = A} r [] s x' = elim x' [ ]
closed_in r (n ∷ ns) s here = closed_at_it (closed_through r ns) n
closed_in r (n ∷ ns) s (there i) = still_closed (closed_through r ns) n s (closed_in r ns s i)

-- ---- the nodes

pub in_range : (a n k : ℕ) → k < n → In (a + k) (range_with_len a n)
in_range a zero k h = absurd (omega arith)
in_range a (suc n) zero h = let e : a + zero ≡ a = omega arith in subst (λ x. In x (a ∷ range_with_len (a + 1) n)) (sym e) here
in_range a (suc n) (suc k) h =
    let e : (a + 1) + k ≡ a + suc k = omega arith in
    there (subst (λ x. In x (range_with_len (a + 1) n)) e (in_range (a + 1) n k (omega arith)))

pub from_zero : (k n : ℕ) → k < n → In k (range_with_len 0 n)
from_zero k n h = let e : 0 + k ≡ k = omega arith in subst (λ x. In x (range_with_len 0 n)) e (in_range 0 n k h)

pub in_map : {A B : Type 0} (f : A → B) (x : A) (xs : List A) → In x xs → In (f x) (map f xs)
in_map {A = A} {B = B} f x [] x'' = elim x'' [ ]
in_map f x (x' ∷ xs) here = here
in_map f x (y ∷ xs) (there i) = there (in_map f x xs i)

pub in_left : {A : Type 0} (x : A) (xs ys : List A) → In x xs → In x (xs ++ ys)
in_left {A = A} x [] ys x'' = elim x'' [ ]
in_left x (x' ∷ xs) ys here = here
in_left x (y ∷ xs) ys (there i) = there (in_left x xs ys i)

pub in_right : {A : Type 0} (x : A) (xs ys : List A) → In x ys → In x (xs ++ ys)
in_right x [] ys i = i
in_right x (y ∷ xs) ys i = there (in_right x xs ys i)

pub below_length : {A : Type 0} (P : Option A → Bool) (xs : List A) (i : ℕ) → IsTrue (P (slice_get xs i)) → P None ≡ false → i < length xs
below_length P [] i h none = absurd (true≢false (sym h ∙ none))
below_length P (x ∷ xs) zero h none = omega arith
below_length P (x ∷ xs) (suc i) h none = let below : i < length xs = below_length P xs i h none in omega arith

is_node_from : (p q i : ℕ) (syncs : List (List Sync)) → IsTrue (is_some (slice_get (get_or syncs q []) i)) → In (node (p + q) i) (nodes_from p syncs)
is_node_from p q i [] h = absurd (true≢false (sym h))
is_node_from p zero i (xs ∷ rest) h =
    let e : p + zero ≡ p = omega arith in
    subst (λ x. In (node x i) (nodes_from p (xs ∷ rest))) (sym e)
    (in_left (node p i) (map (node p) (range_with_len 0 (length xs))) (nodes_from (p + 1) rest)
    (in_map (node p) i (range_with_len 0 (length xs)) (from_zero i (length xs) (below_length is_some xs i h refl))))
is_node_from p (suc q) i (xs ∷ rest) h =
    let e : (p + 1) + q ≡ p + suc q = omega arith in
    in_right (node (p + suc q) i) (map (node p) (range_with_len 0 (length xs))) (nodes_from (p + 1) rest)
    (subst (λ x. In (node x i) (nodes_from (p + 1) rest)) e (is_node_from (p + 1) q i rest h))

is_node : (syncs : List (List Sync)) (a : NodeId) → IsTrue (is_some (sync_at syncs a)) → In a (nodes_from 0 syncs)
is_node syncs a h = let e : 0 + a.process ≡ a.process = omega arith in subst (λ p. In (node p a.sync) (nodes_from 0 syncs)) e (is_node_from 0 a.process a.sync syncs h)

-- ---- both ways

pub leads_there : (program : Program) (a b : Option Sync) → IsTrue (leads_at program a b) → IsTrue (is_some b)
leads_there program (Some a) (Some b) h = refl
leads_there program (Some a) None h = h
leads_there program None b h = absurd (true≢false (sym h))

pub direct_there : (program : Program) (syncs : List (List Sync)) (a b : NodeId) → IsTrue (is_direct program syncs a b) → IsTrue (is_some (sync_at syncs b))
direct_there program syncs a b h =
    elim (or_cases (is_next syncs a b) (leads_at program (sync_at syncs a) (sync_at syncs b)) h) [
      | inl next ↦ (and_parts (nat_eq a.process b.process && nat_eq (a.sync + 1) b.sync) (is_some (sync_at syncs b)) next).1
      | inr leads ↦ leads_there program (sync_at syncs a) (sync_at syncs b) leads
    ]

pub before_there : (program : Program) (syncs : List (List Sync)) (a b : NodeId) → Before program syncs a b → IsTrue (is_some (sync_at syncs b))
before_there program syncs a b (direct d) = direct_there program syncs a b d
before_there program syncs a b (through {b = m} h k) = before_there program syncs m b k

tested : (program : Program) (syncs : List (List Sync)) (a b : NodeId) → Before program syncs a b → IsTrue (is_before program syncs a b)
unfolding IsClosedAt
tested program syncs a b (direct d) = grows (is_direct program syncs) (nodes_from 0 syncs) a b d
tested program syncs a b (through {b = m} h k) =
    closed_in (is_direct program syncs) (nodes_from 0 syncs) m (is_node syncs m (before_there program syncs a m h)) a b
    (tested program syncs a m h) (tested program syncs m b k)

found_in : (program : Program) (syncs : List (List Sync)) (ns : List NodeId) (a b : NodeId) → IsTrue (closed_through (is_direct program syncs) ns a b) → Before program syncs a b
unfolding across
found_in program syncs [] a b h = direct h
found_in program syncs (n ∷ ns) a b h =
    elim (cases (closed_through (is_direct program syncs) ns) n a b h) [
      | inl s ↦ found_in program syncs ns a b s
      | inr l ↦ through (found_in program syncs ns a n l.0) (found_in program syncs ns n b l.1)
    ]

pub tests_before : IsTestOfBefore
tests_before program syncs a b = (found_in program syncs (nodes_from 0 syncs) a b, tested program syncs a b)

-- where the test says of nothing that it is before itself, nothing is, and the other way
pub none_before_itself : (program : Program) (syncs : List (List Sync)) → ((a : NodeId) → is_before program syncs a a ≡ false) → (a : NodeId) → Before program syncs a a → ⊥
none_before_itself program syncs never a h = true≢false (sym ((tests_before program syncs a a).1 h) ∙ never a)

pub none_is_before_itself : (program : Program) (syncs : List (List Sync)) → ((a : NodeId) → Before program syncs a a → ⊥) → (a : NodeId) → is_before program syncs a a ≡ false
none_is_before_itself program syncs never a = by (is_before program syncs a a) refl
  where
    by : (t : Bool) → is_before program syncs a a ≡ t → t ≡ false
    by true e = absurd (never a ((tests_before program syncs a a).0 e))
    by false e = refl

-- ---- edges

ends_found : (program : Program) (syncs : List (List Sync)) (a b : EdgeId) (j : ℕ) → (a.process ≡ b.process → ⊥) → b.edge ≡ j → IsTrue (is_edge_before program syncs a (record b { edge = j })) → EdgeBefore program syncs a b
ends_found program syncs a b zero d e h = absurd (true≢false (sym h ∙ cond-false (nat_eq a.process b.process) (nat_lt a.edge 0) false (ne_eqb a.process b.process d)))
ends_found program syncs a b (suc j) d e h =
    let next : b.edge ≡ j + 1 = omega (arith, e) in
    let way : Bool = is_before program syncs (node a.process a.edge) (node b.process j) in
    across_to d j next (found_in program syncs (nodes_from 0 syncs) (node a.process a.edge) (node b.process j)
    (sym (cond-false (nat_eq a.process b.process) (nat_lt a.edge (suc j)) way (ne_eqb a.process b.process d)) ∙ h))

edge_found : (program : Program) (syncs : List (List Sync)) (a b : EdgeId) → IsTrue (is_edge_before program syncs a b) → EdgeBefore program syncs a b
edge_found program syncs a b h = elim (cases_eq a.process b.process) [
  | inl e ↦ earlier e (ltb-true a.edge b.edge (sym (cond-true (nat_eq a.process b.process) (nat_lt a.edge b.edge) _ (eq-eqb a.process b.process e)) ∙ h))
  | inr d ↦ ends_found program syncs a b b.edge d refl h
]

edge_tested : (program : Program) (syncs : List (List Sync)) (a b : EdgeId) → EdgeBefore program syncs a b → IsTrue (is_edge_before program syncs a b)
edge_tested program syncs a b (earlier e lt) =
    cond-true (nat_eq a.process b.process) (nat_lt a.edge b.edge) _ (eq-eqb a.process b.process e) ∙ lt-ltb a.edge b.edge lt
edge_tested program syncs a b (across_to d j e h) =
    let next : b.edge ≡ suc j = omega (arith, e) in
    ap (λ n. is_edge_before program syncs a (record b { edge = n })) next
    ∙ (cond-false (nat_eq a.process b.process) (nat_lt a.edge (suc j)) _ (ne_eqb a.process b.process d)
    ∙ tested program syncs (node a.process a.edge) (node b.process j) h)

pub tests_edges : IsTestOfEdges
tests_edges program syncs a b = (edge_found program syncs a b, edge_tested program syncs a b)

pub leads_to_none : (program : Program) (a : Option Sync) → leads_at program a None ≡ false
leads_to_none program None = refl
leads_to_none program (Some a) = refl
