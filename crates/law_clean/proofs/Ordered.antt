-- Conflicting accesses are ordered where no race has the edge of one of them.
use Rattle.std.specs.Bool.{beq}
use Rattle.std.proofs.Common.{◌≡◌, ℕ, zero, suc, ◌<◌, ◌≤◌, List, [], ◌∷◌, Bool, true, false, not, refl, ap, sym, subst, ◌∙◌, arith, length, inl, inr, ◌⊎◌, ◌&&◌, ◌||◌, true≢false, eq-eqb, get_or}
use Rattle.std.proofs.lemmas.Bool.{and_from, cases_lt, or_cases, or_left, or_right}
use Rattle.std.proofs.lemmas.Option.{none-some}
use Rattle.std.specs.List.{flat_map, list_any}
use Rattle.std.specs.Prelude.{IsTrue, nat_eq, slice_get, Some}
use Rattle.ppd_ast.specs.declared.program.Program.{Program}
use Rattle.ppd_model.specs.declared.graph.EdgeId.{EdgeId}
use Rattle.ppd_model.specs.declared.graph.Race.{Race}
use Rattle.ppd_model.specs.declared.graph.RaceKind.{RaceKind}
use Rattle.ppd_model.specs.declared.graph.RaceKind.TheVariants.{ReadWrite, WriteRead, WriteWrite}
use Rattle.ppd_model.specs.declared.tracing.Story.{Story}
use Rattle.ppd_model.specs.declared.tracing.Taken.{Taken}
use Rattle.ppd_model.specs.Record.{SharedAccess, accesses, accesses_from, record_of}
use Rattle.ppd_model.specs.HappenedBefore.{EdgeBefore, edge, is_edge_before}
use Rattle.ppd_model.specs.Races.{Edges, candidates, edges_of_story, first_writes, has_access, is_race, kinds, race, second_writes, races_among}
use Rattle.ppd_model.specs.Laws.{DoConflict}
use Rattle.ppd_model.proofs.RaceFree.{any_at, candidate_in, edge_below}
use Rattle.ppd_model.proofs.Tested.{In, here, there, in_left, in_right, tests_edges}
use Rattle.law_flow.proofs.Edges.Sources.Members.{filter_in}
use Rattle.law_clean.proofs.Vocabulary.{IsUnraced, UnracedMeansOrder}
use Rattle.law_clean.proofs.PastWords.{is_of_race}

-- ---- lists

pub in_flat_map : {A B : Type 0} (f : A → List B) (x : A) (y : B) (xs : List A) → In x xs → In y (f x) → In y (flat_map f xs)
in_flat_map f x y [] i j = elim i [ ]
in_flat_map f x y (x' ∷ xs) here j = in_left y (f x) (flat_map f xs) j
in_flat_map f x y (z ∷ xs) (there i) j = in_right y (f z) (flat_map f xs) (in_flat_map f x y xs i j)

pub any_in : {A : Type 0} (test : A → Bool) (x : A) (xs : List A) → In x xs → test x ≡ true → list_any test xs ≡ true
any_in test x [] i e = elim i [ ]
any_in test x (x' ∷ xs) here e = or_left (test x) (list_any test xs) e
any_in test x (z ∷ xs) (there i) e = or_right (test z) (list_any test xs) (any_in test x xs i e)

process_below : (s : Story) (p m : ℕ) (a : SharedAccess) → slice_get (accesses s p) m ≡ Some a → p < length s.steps
process_below s p m a h = elim (cases_lt p (length s.steps)) [
  | inl lt ↦ lt
  | inr ge ↦ absurd (none-some a (subst (λ xs. slice_get (accesses_from 0 xs) m ≡ Some a) (past s.steps p ge) h))
]
  where
    past : (steps : List (List Taken)) (q : ℕ) → length steps ≤ q → get_or steps q [] ≡ []
    past [] q le = refl
    past (xs ∷ rest) zero le = absurd (omega (arith, le))
    past (xs ∷ rest) (suc q) le = past rest q (omega (arith, le))

-- the kind of two accesses of which one writes
kind_by : Bool → Bool → RaceKind
kind_by false w = ReadWrite
kind_by true false = WriteRead
kind_by true true = WriteWrite

kind_in : (v w : Bool) → In (kind_by v w) kinds
unfolding kind_by
kind_in false w = here
kind_in true false = there here
kind_in true true = there (there here)

first_is : (v w : Bool) → first_writes (kind_by v w) ≡ v
unfolding kind_by
first_is false w = refl
first_is true false = refl
first_is true true = refl

second_is : (v w : Bool) → IsTrue (v || w) → second_writes (kind_by v w) ≡ w
unfolding kind_by
second_is false w h = sym h
second_is true false h = refl
second_is true true h = refl

does_so : (a : SharedAccess) (w : Bool) → a.writes ≡ w → beq a.writes w ≡ true
does_so a w e = ap (λ b. beq b w) e ∙ self w
  where
    self : (b : Bool) → beq b b ≡ true
    self true = refl
    self false = refl

has_it : (s : Story) (p m c : ℕ) (a : SharedAccess) (w : Bool) → slice_get (accesses s p) m ≡ Some a → a.cell ≡ c → a.writes ≡ w → has_access s p a.edge c w ≡ true
has_it s p m c a w h same e =
    any_at (λ b. nat_eq b.edge a.edge && nat_eq b.cell c && beq b.writes w) (accesses s p) m a h
    (and_from (nat_eq a.edge a.edge && nat_eq a.cell c) (beq a.writes w) (and_from (nat_eq a.edge a.edge) (nat_eq a.cell c) (eq-eqb a.edge a.edge refl) (eq-eqb a.cell c same)) (does_so a w e))

ordered_or : (a b o : Bool) → a ≡ true → b ≡ true → ((a && b && not o) ≡ true → ⊥) → o ≡ true
ordered_or a b true h k no' = refl
ordered_or a b false h k no' = absurd (no' (and_from (a && b) true (and_from a b h k) refl))

-- ---- the edges of a race

first_of_race : (p i q j c : ℕ) (k : RaceKind) → is_of_race (edge p i) (race p i q j c k) ≡ true
first_of_race p i q j c k =
    or_left (nat_eq p p && nat_eq i i) (nat_eq q p && nat_eq j i) (and_from (nat_eq p p) (nat_eq i i) (eq-eqb p p refl) (eq-eqb i i refl))

second_of_race : (p i q j c : ℕ) (k : RaceKind) → is_of_race (edge q j) (race p i q j c k) ≡ true
second_of_race p i q j c k =
    or_right (nat_eq p q && nat_eq i j) (nat_eq q q && nat_eq j j) (and_from (nat_eq q q) (nat_eq j j) (eq-eqb q q refl) (eq-eqb j j refl))

module _ (program : Program) (s : Story) where
  abbrev edges : Edges
  edges = edges_of_story program s

  Ordered : EdgeId → EdgeId → Type 0
  Ordered x y = EdgeBefore program (record_of s) x y ⊎ EdgeBefore program (record_of s) y x

  swapped : (x y : EdgeId) → Ordered x y → Ordered y x
  unfolding Ordered
  swapped x y (inl a) = inr a
  swapped x y (inr b) = inl b

  -- a candidate that is a race is listed, so that its edges are raced
  listed : (r : Race) (e : EdgeId) → In r (candidates edges) → is_of_race e r ≡ true → IsUnraced program s e → is_race edges r ≡ true → ⊥
  listed r e i of clear is = true≢false (sym (any_in (is_of_race e) r (races_among (edges_of_story program s)) (filter_in (is_race edges) r (candidates edges) i is) of) ∙ clear)

  not_listed : (p i q j c : ℕ) (k : RaceKind) → In (race p i q j c k) (candidates edges) → IsUnraced program s (edge p i) ⊎ IsUnraced program s (edge q j) → is_race edges (race p i q j c k) ≡ true → ⊥
  not_listed p i q j c k i' (inl clear) is = listed (race p i q j c k) (edge p i) i' (first_of_race p i q j c k) clear is
  not_listed p i q j c k i' (inr clear) is = listed (race p i q j c k) (edge q j) i' (second_of_race p i q j c k) clear is

  -- the first process before the second
  rising : (p q : ℕ) (a b : SharedAccess) → DoConflict s p q a b → IsUnraced program s (edge p a.edge) ⊎ IsUnraced program s (edge q b.edge) → p < q → Ordered (edge p a.edge) (edge q b.edge)
  unfolding Ordered
  rising p q a b d clear lt =
      let k : RaceKind = kind_by a.writes b.writes in
      let there' : In (race p a.edge q b.edge a.cell k) (candidates edges) =
      candidate_in edges p a.edge q b.edge a.cell k lt (process_below s q d.second.0 b d.second.1)
      (omega (arith, edge_below (get_or s.steps p []) 0 d.first.0 a d.first.1)) (omega (arith, edge_below (get_or s.steps q []) 0 d.second.0 b d.second.1)) d.there (kind_in a.writes b.writes) in
      let o : (is_edge_before program (record_of s) (edge p a.edge) (edge q b.edge) || is_edge_before program (record_of s) (edge q b.edge) (edge p a.edge)) ≡ true = ordered_or
      (has_access s p a.edge a.cell (first_writes k)) (has_access s q b.edge a.cell (second_writes k))
      (is_edge_before program (record_of s) (edge p a.edge) (edge q b.edge) || is_edge_before program (record_of s) (edge q b.edge) (edge p a.edge))
      (has_it s p d.first.0 a.cell a (first_writes k) d.first.1 refl (sym (first_is a.writes b.writes)))
      (has_it s q d.second.0 a.cell b (second_writes k) d.second.1 (sym d.cell) (sym (second_is a.writes b.writes d.writes)))
      (not_listed p a.edge q b.edge a.cell k there' clear) in
      elim (or_cases (is_edge_before program (record_of s) (edge p a.edge) (edge q b.edge)) (is_edge_before program (record_of s) (edge q b.edge) (edge p a.edge)) o) [
        | inl h ↦ inl ((tests_edges program (record_of s) (edge p a.edge) (edge q b.edge)).0 h)
        | inr h ↦ inr ((tests_edges program (record_of s) (edge q b.edge) (edge p a.edge)).0 h)
      ]

  turned : (p q : ℕ) (a b : SharedAccess) → DoConflict s p q a b → DoConflict s q p b a
  turned p q a b d = record {
    apart = λ e. d.apart (sym e);
    first = d.second;
    second = d.first;
    cell = sym d.cell;
    there = subst (λ c. c < length s.cells) d.cell d.there;
    writes = either a.writes b.writes d.writes;
  }
    where
      either : (v w : Bool) → IsTrue (v || w) → IsTrue (w || v)
      either v w h = elim (or_cases v w h) [ inl x ↦ or_right w v x | inr y ↦ or_left w v y ]

  other_one : (x y : EdgeId) → IsUnraced program s x ⊎ IsUnraced program s y → IsUnraced program s y ⊎ IsUnraced program s x
  other_one x y (inl a) = inr a
  other_one x y (inr b) = inl b

  ordered_at : (p q : ℕ) (a b : SharedAccess) → DoConflict s p q a b → IsUnraced program s (edge p a.edge) ⊎ IsUnraced program s (edge q b.edge) → Ordered (edge p a.edge) (edge q b.edge)
  unfolding Ordered
  ordered_at p q a b d clear = elim (cases_lt p q) [
    | inl lt ↦ rising p q a b d clear lt
    | inr le ↦ swapped (edge q b.edge) (edge p a.edge) (rising q p b a (turned p q a b d) (other_one (edge p a.edge) (edge q b.edge) clear) (below le))
  ]
    where
      below : q ≤ p → q < p
      below le = elim (cases_lt q p) [ inl lt ↦ lt | inr ge ↦ absurd (d.apart (omega (arith, le, ge))) ]

pub unraced_ordered : UnracedMeansOrder
unfolding Ordered
unraced_ordered program s p q a b d clear = ordered_at program s p q a b d clear
