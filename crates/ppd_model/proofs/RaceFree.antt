-- Where no race is listed, all accesses that conflict are ordered.
use Rattle.std.specs.Bool.{beq}
use Rattle.std.proofs.Common.{◌≡◌, ℕ, zero, suc, ◌+◌, ◌-◌, ◌<◌, ◌≤◌, List, [], ◌∷◌, ◌++◌, Option, Some, None, Bool, true, false, cond, not, refl, ap, sym, subst, ◌∙◌, arith, length, map, inl, inr, ◌⊎◌, ◌&&◌, ◌||◌, true≢false, eq-eqb, get_or}
use Rattle.std.proofs.lemmas.Bool.{and_from, cases_lt, or_cases, or_left, or_right}
use Rattle.std.proofs.lemmas.Option.{none-some}
use Rattle.std.specs.List.{cons_option, flat_map, list_any, range_with_len}
use Rattle.std.specs.Prelude.{IsTrue, filter, is_some, nat_eq, slice_get, filter_map}
use Rattle.ppd_ast.specs.declared.program.Program.{Program}
use Rattle.ppd_sem.specs.declared.proc.Need.{Need}
use Rattle.ppd_sem.specs.declared.proc.Need.TheVariants.{Read, Write}
use Rattle.ppd_model.specs.declared.graph.EdgeId.{EdgeId}
use Rattle.ppd_model.specs.declared.graph.Race.{Race}
use Rattle.ppd_model.specs.declared.graph.RaceKind.{RaceKind}
use Rattle.ppd_model.specs.declared.graph.RaceKind.TheVariants.{ReadWrite, WriteRead, WriteWrite}
use Rattle.ppd_model.specs.Story.{Story, Taken}
use Rattle.ppd_model.specs.Synchronizations.{Sync, sync_of}
use Rattle.ppd_model.specs.Record.{SharedAccess, access_at, accesses, accesses_from, edge_after, record_of}
use Rattle.ppd_model.specs.HappenedBefore.{EdgeBefore, edge, is_edge_before}
use Rattle.ppd_model.specs.Races.{Edges, candidates, edges_of_story, first_writes, has_access, is_race, kinds, race, second_writes, races_among}
use Rattle.ppd_model.proofs.OrderWords.{own_edges}
use Rattle.ppd_model.specs.Laws.{DoConflict, NoRaceMeansOrder}
use Rattle.ppd_model.proofs.Tested.{In, here, there, from_zero, in_left, in_map, in_range, in_right, tests_edges}

-- ---- members of lists

in_flat_map : {A B : Type 0} (f : A → List B) (x : A) (y : B) (xs : List A) → In x xs → In y (f x) → In y (flat_map f xs)
in_flat_map f x y [] i j = elim i [ ]
in_flat_map f x y (x' ∷ xs) here j = in_left y (f x) (flat_map f xs) j
in_flat_map f x y (z ∷ xs) (there i) j = in_right y (f z) (flat_map f xs) (in_flat_map f x y xs i j)

nil_cons : {A : Type 0} {x : A} {xs : List A} → [] ≡ x ∷ xs → ⊥
nil_cons e = true≢false (ap (λ ys. elim ys [ [] ↦ true | z ∷ zs ↦ false ]) e)

filter_first : {A : Type 0} (b : Bool) (x : A) (ys : List A) → cond b (x ∷ ys) ys ≡ [] → (b ≡ false) × (ys ≡ [])
filter_first true x ys e = absurd (nil_cons (sym e))
filter_first false x ys e = (refl, e)

none_passes : {A : Type 0} (test : A → Bool) (x : A) (xs : List A) → filter test xs ≡ [] → In x xs → test x ≡ false
none_passes test x [] e i = elim i [ ]
none_passes test x (x' ∷ xs) e here = (filter_first (test x) x (filter test xs) e).0
none_passes test x (z ∷ xs) e (there i) = none_passes test x xs (filter_first (test z) z (filter test xs) e).1 i

-- what an element passes, one of the list passes
pub any_at : {A : Type 0} (test : A → Bool) (xs : List A) (m : ℕ) (x : A) → slice_get xs m ≡ Some x → test x ≡ true → list_any test xs ≡ true
any_at test [] m x h e = absurd (none-some x h)
any_at test (y ∷ xs) zero x h e = or_left (test y) (list_any test xs) (subst (λ o. some_passes test o ≡ true) (sym h) e)
  where
    some_passes : {B : Type 0} → (B → Bool) → Option B → Bool
    some_passes t None = false
    some_passes t (Some z) = t z
any_at test (y ∷ xs) (suc m) x h e = or_right (test y) (list_any test xs) (any_at test xs m x h e)

-- ---- the edge of an access is one of its process

pub edge_shift : (o : Option Sync) (e : ℕ) (ys : List Sync) → e + length (cons_option o ys) ≡ cond (is_some o) (e + 1) e + length ys
edge_shift None e ys = refl
edge_shift (Some k) e ys = omega arith

access_edge : (e : ℕ) (n : Need) (rest : List SharedAccess) (m : ℕ) (a : SharedAccess) → slice_get (access_at e n ++ rest) m ≡ Some a → (a.edge ≡ e) ⊎ ((k : ℕ) × (slice_get rest k ≡ Some a))
access_edge e (Read c) rest zero a h = inl (ap (λ o. elim o [ None ↦ e | Some z ↦ z.edge ]) (sym h))
access_edge e (Read c) rest (suc m) a h = inr (m, h)
access_edge e (Write c v) rest zero a h = inl (ap (λ o. elim o [ None ↦ e | Some z ↦ z.edge ]) (sym h))
access_edge e (Write c v) rest (suc m) a h = inr (m, h)
access_edge e n rest m a h = inr (m, h)

pub edge_below : (xs : List Taken) (e m : ℕ) (a : SharedAccess) → slice_get (accesses_from e xs) m ≡ Some a → a.edge ≤ e + length (filter_map sync_of xs)
edge_below [] e m a h = absurd (none-some a h)
edge_below (x ∷ xs) e m a h = elim (access_edge e x.need (accesses_from (edge_after e x) xs) m a h) [
  | inl same ↦ omega (arith, same)
  | inr rest ↦ omega (arith, edge_below xs (edge_after e x) rest.0 a rest.1, edge_shift (sync_of x) e (filter_map sync_of xs))
]

process_below : (s : Story) (p m : ℕ) (a : SharedAccess) → slice_get (accesses s p) m ≡ Some a → p < length s.steps
process_below s p m a h = elim (cases_lt p (length s.steps)) [
  | inl lt ↦ lt
  | inr ge ↦ absurd (none-some a (subst (λ xs. slice_get (accesses_from 0 xs) m ≡ Some a) (past s.steps p ge) h))
]
  where
    past : (steps : List (List Taken)) (q : ℕ) → length steps ≤ q → get_or steps q [] ≡ []
    past [] q le = refl
    past (xs ∷ rest) zero le = absurd (omega (arith, le))
    past (xs ∷ rest) (suc q) le = past rest q (omega (arith, le))

-- ---- candidates

pub candidate_in : (e : Edges) (p i q j c : ℕ) (k : RaceKind) → p < q → q < e.processes → i < e.count p → j < e.count q → c < e.cells → In k kinds
    → In (race p i q j c k) (candidates e)
candidate_in e p i q j c k pq hq hi hj hc hk =
    let r : Race = race p i q j c k in
    let after : List ℕ = range_with_len (p + 1) (e.processes - (p + 1)) in
    let far : (p + 1) + (q - (p + 1)) ≡ q = omega (arith, pq) in
    in_flat_map _ p r (range_with_len 0 e.processes) (from_zero p e.processes (omega (arith, pq, hq)))
    (in_flat_map _ i r (own_edges e p) (from_zero i (e.count p) hi)
    (in_flat_map _ q r after (subst (λ x. In x after) far (in_range (p + 1) (e.processes - (p + 1)) (q - (p + 1)) (omega (arith, pq, hq))))
    (in_flat_map _ j r (own_edges e q) (from_zero j (e.count q) hj)
    (in_flat_map (λ cell. map (race p i q j cell) kinds) c r (range_with_len 0 e.cells) (from_zero c e.cells hc)
    (in_map (race p i q j c) k kinds hk)))))

-- the kind of two accesses of which one writes
kind_by : Bool → Bool → RaceKind
kind_by false w = ReadWrite
kind_by true false = WriteRead
kind_by true true = WriteWrite

kind_in : (v w : Bool) → In (kind_by v w) kinds
unfolding kind_by
kind_in false w = here
kind_in true false = there here
kind_in true true = there (there here)

first_is : (v w : Bool) → first_writes (kind_by v w) ≡ v
unfolding kind_by
first_is false w = refl
first_is true false = refl
first_is true true = refl

second_is : (v w : Bool) → IsTrue (v || w) → second_writes (kind_by v w) ≡ w
unfolding kind_by
second_is false w h = sym h
second_is true false h = refl
second_is true true h = refl

same_self : (n : ℕ) → nat_eq n n ≡ true
same_self n = eq-eqb n n refl

does_so : (a : SharedAccess) (w : Bool) → a.writes ≡ w → beq a.writes w ≡ true
does_so a w e = ap (λ b. beq b w) e ∙ self w
  where
    self : (b : Bool) → beq b b ≡ true
    self true = refl
    self false = refl

has_it : (s : Story) (p m c : ℕ) (a : SharedAccess) (w : Bool) → slice_get (accesses s p) m ≡ Some a → a.cell ≡ c → a.writes ≡ w → has_access s p a.edge c w ≡ true
has_it s p m c a w h same e =
    any_at (λ b. nat_eq b.edge a.edge && nat_eq b.cell c && beq b.writes w) (accesses s p) m a h
    (and_from (nat_eq a.edge a.edge && nat_eq a.cell c) (beq a.writes w) (and_from (nat_eq a.edge a.edge) (nat_eq a.cell c) (same_self a.edge) (eq-eqb a.cell c same)) (does_so a w e))

clean : (a b o : Bool) → (a && b && not o) ≡ false → a ≡ true → b ≡ true → o ≡ true
clean a b true e h k = refl
clean a b false e h k = absurd (true≢false (sym (and_from (a && b) true (and_from a b h k) refl) ∙ e))

-- ---- no race

module _ (program : Program) (s : Story) (none : races_among (edges_of_story program s) ≡ []) where
  abbrev edges : Edges
  edges = edges_of_story program s

  Ordered : EdgeId → EdgeId → Type 0
  Ordered x y = EdgeBefore program (record_of s) x y ⊎ EdgeBefore program (record_of s) y x

  swapped : (x y : EdgeId) → Ordered x y → Ordered y x
  unfolding Ordered
  swapped x y (inl a) = inr a
  swapped x y (inr b) = inl b

  -- the first process before the second
  rising : (p q : ℕ) (a b : SharedAccess) → DoConflict s p q a b → p < q → Ordered (edge p a.edge) (edge q b.edge)
  unfolding Ordered
  rising p q a b d lt =
      let k : RaceKind = kind_by a.writes b.writes in
      let found : is_race edges (race p a.edge q b.edge a.cell k) ≡ false = none_passes (is_race edges) (race p a.edge q b.edge a.cell k) (candidates edges) none
      (candidate_in edges p a.edge q b.edge a.cell k lt (process_below s q d.second.0 b d.second.1)
      (omega (arith, edge_below (get_or s.steps p []) 0 d.first.0 a d.first.1)) (omega (arith, edge_below (get_or s.steps q []) 0 d.second.0 b d.second.1)) d.there (kind_in a.writes b.writes)) in
      let o : (is_edge_before program (record_of s) (edge p a.edge) (edge q b.edge) || is_edge_before program (record_of s) (edge q b.edge) (edge p a.edge)) ≡ true = clean
      (has_access s p a.edge a.cell (first_writes k)) (has_access s q b.edge a.cell (second_writes k))
      (is_edge_before program (record_of s) (edge p a.edge) (edge q b.edge) || is_edge_before program (record_of s) (edge q b.edge) (edge p a.edge)) found
      (has_it s p d.first.0 a.cell a (first_writes k) d.first.1 refl (sym (first_is a.writes b.writes)))
      (has_it s q d.second.0 a.cell b (second_writes k) d.second.1 (sym d.cell) (sym (second_is a.writes b.writes d.writes))) in
      elim (or_cases (is_edge_before program (record_of s) (edge p a.edge) (edge q b.edge)) (is_edge_before program (record_of s) (edge q b.edge) (edge p a.edge)) o) [
        | inl h ↦ inl ((tests_edges program (record_of s) (edge p a.edge) (edge q b.edge)).0 h)
        | inr h ↦ inr ((tests_edges program (record_of s) (edge q b.edge) (edge p a.edge)).0 h)
      ]

  turned : (p q : ℕ) (a b : SharedAccess) → DoConflict s p q a b → DoConflict s q p b a
  turned p q a b d = record {
    apart = λ e. d.apart (sym e);
    first = d.second;
    second = d.first;
    cell = sym d.cell;
    there = subst (λ c. c < length s.cells) d.cell d.there;
    writes = either a.writes b.writes d.writes;
  }
    where
      either : (v w : Bool) → IsTrue (v || w) → IsTrue (w || v)
      either v w h = elim (or_cases v w h) [ inl x ↦ or_right w v x | inr y ↦ or_left w v y ]

  pub ordered : (p q : ℕ) (a b : SharedAccess) → DoConflict s p q a b → EdgeBefore program (record_of s) (edge p a.edge) (edge q b.edge) ⊎ EdgeBefore program (record_of s) (edge q b.edge) (edge p a.edge)
  unfolding Ordered
  ordered p q a b d = elim (cases_lt p q) [
    | inl lt ↦ rising p q a b d lt
    | inr le ↦ swapped (edge q b.edge) (edge p a.edge) (rising q p b a (turned p q a b d) (below le))
  ]
    where
      below : q ≤ p → q < p
      below le = elim (cases_lt q p) [ inl lt ↦ lt | inr ge ↦ absurd (d.apart (omega (arith, le, ge))) ]

pub no_race : NoRaceMeansOrder
no_race program s none p q a b d = ordered program s none p q a b d
