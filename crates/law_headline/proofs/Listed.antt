-- The races of a schedule are exactly the conflicts that its record leaves unordered.
use Rattle.ppd_model.specs.Setting.{Setting}
use Rattle.ppd_model.specs.Synchronizations.{sync_of}
use Rattle.std.specs.Prelude.{filter_map}
use Rattle.std.specs.Bool.{beq}
use Rattle.std.proofs.Common.{◌≡◌, ℕ, zero, suc, ◌+◌, ◌-◌, ◌<◌, ◌≤◌, Bool, true, false, Some, List, [], ◌∷◌, arith, get_or, inl, inr, length, map, nat_eq, not, refl, ap, slice_get, sym, subst, ◌&&◌, ◌||◌, true≢false, eq-eqb, eqb-true}
use Rattle.std.proofs.lemmas.Bool.{and_from, cases_lt, or_cases, or_left, or_right}
use Rattle.std.proofs.lemmas.Option.{none-some}
use Rattle.std.specs.List.{range_with_len}
use Rattle.ppd_ast.specs.declared.program.Program.{Program}
use Rattle.ppd_ast.specs.Valid.{IsValid}
use Rattle.ppd_model.specs.declared.graph.EdgeId.{EdgeId}
use Rattle.ppd_model.specs.declared.graph.Race.{Race}
use Rattle.ppd_model.specs.declared.graph.RaceKind.{RaceKind}
use Rattle.ppd_model.specs.declared.graph.RaceKind.TheVariants.{ReadWrite, WriteRead, WriteWrite}
use Rattle.ppd_model.specs.HappenedBefore.{edge, is_edge_before}
use Rattle.ppd_model.specs.Races.{Edges, candidates, edges_of_story, first_writes, has_access, is_race, kinds, race, races, second_writes, races_among}
use Rattle.ppd_model.proofs.OrderWords.{are_apart, own_edges}
use Rattle.ppd_model.specs.Record.{SharedAccess, accesses, accesses_from, record_of}
use Rattle.ppd_model.specs.declared.tracing.Story.{Story}
use Rattle.ppd_model.specs.declared.tracing.Taken.{Taken}
use Rattle.ppd_model.specs.Story.{story}
use Rattle.ppd_model.specs.Laws.{IsTestOfEdges}
use Rattle.ppd_model.specs.Prefixes.{ObjectsStay}
use Rattle.ppd_model.specs.RecordedSets.{AccessesAreOfCells}
use Rattle.ppd_model.proofs.RaceFree.{edge_below}
use Rattle.law_headline.specs.Unordered.{AreUnordered, HasAccess, IsUnorderedConflict, ListsExactly}
use Rattle.law_headline.proofs.Once.{candidates_once, filter_once, one_place}
use Rattle.law_headline.proofs.Members.{Member, at_place, in_any, in_contains, in_filter, in_flat, in_map, in_range, of_any, of_contains, of_filter, of_flat, of_map, of_range}

left_true : (a b : Bool) → (a && b) ≡ true → a ≡ true
left_true true b e = refl
left_true false b e = absurd (true≢false (sym e))

right_true : (a b : Bool) → (a && b) ≡ true → b ≡ true
right_true true b e = e
right_true false b e = absurd (true≢false (sym e))

not_true : (b : Bool) → not b ≡ true → b ≡ true → ⊥
not_true true e f = true≢false (sym e)
not_true false e f = true≢false (sym f)

not_false : (b : Bool) → (b ≡ true → ⊥) → not b ≡ true
not_false true f = absurd (f refl)
not_false false f = refl

-- ---- accesses

writes_so : (a : SharedAccess) (w : Bool) → beq a.writes w ≡ true → a.writes ≡ w
writes_so a w e = by a.writes w e
  where
    by : (b c : Bool) → beq b c ≡ true → b ≡ c
    by true true f = refl
    by true false f = sym f
    by false true f = f
    by false false f = refl

does_so : (w : Bool) → beq w w ≡ true
does_so true = refl
does_so false = refl

is_access : (a : SharedAccess) (i c : ℕ) (w : Bool) → a.edge ≡ i → a.cell ≡ c → a.writes ≡ w → record { edge = i; cell = c; writes = w } ≡ a
is_access a i c w e f g = λ k. record { edge = sym e k; cell = sym f k; writes = sym g k }

module _ (s : Story) (p i c : ℕ) (w : Bool) where
  abbrev passes : SharedAccess → Bool
  passes a = nat_eq a.edge i && nat_eq a.cell c && beq a.writes w

  access_of : has_access s p i c w ≡ true → HasAccess s p i c w
  access_of e =
      let found = of_any passes (accesses s p) e in
      let a : SharedAccess = found.0 in
      let both = left_true (nat_eq a.edge i && nat_eq a.cell c) (beq a.writes w) found.2 in
      let same = is_access a i c w
      (eqb-true a.edge i (left_true (nat_eq a.edge i) (nat_eq a.cell c) both))
      (eqb-true a.cell c (right_true (nat_eq a.edge i) (nat_eq a.cell c) both))
      (writes_so a w (right_true (nat_eq a.edge i && nat_eq a.cell c) (beq a.writes w) found.2)) in
      in_contains (accesses s p) (record { edge = i; cell = c; writes = w }) (subst (λ z. Member z (accesses s p)) (sym same) found.1)

  access_is : HasAccess s p i c w → has_access s p i c w ≡ true
  access_is h =
      in_any passes (record { edge = i; cell = c; writes = w }) (accesses s p) (of_contains (accesses s p) (record { edge = i; cell = c; writes = w }) h)
      (and_from (nat_eq i i && nat_eq c c) (beq w w)
      (and_from (nat_eq i i) (nat_eq c c) (eq-eqb i i refl) (eq-eqb c c refl)) (does_so w))

  -- of a process and an edge that are there
  access_at : HasAccess s p i c w → (m : ℕ) × (slice_get (accesses s p) m ≡ Some (record { edge = i; cell = c; writes = w }))
  access_at h = at_place (accesses s p) (record { edge = i; cell = c; writes = w }) (of_contains (accesses s p) (record { edge = i; cell = c; writes = w }) h)

  process_there : HasAccess s p i c w → p < length s.steps
  process_there h = elim (cases_lt p (length s.steps)) [
    | inl lt ↦ lt
    | inr ge ↦ absurd (none-some (record { edge = i; cell = c; writes = w }) (subst (λ xs. slice_get (accesses_from 0 xs) (access_at h).0 ≡ Some (record { edge = i; cell = c; writes = w })) (past s.steps p ge) (access_at h).1))
  ]
    where
      past : (steps : List (List Taken)) (q : ℕ) → length steps ≤ q → get_or steps q [] ≡ []
      past [] q le = refl
      past (xs ∷ rest) zero le = absurd (omega (arith, le))
      past (xs ∷ rest) (suc q) le = past rest q (omega (arith, le))

  edge_there : HasAccess s p i c w → i < length (filter_map sync_of (get_or s.steps p [])) + 1
  edge_there h =
      let below = edge_below (get_or s.steps p []) 0 (access_at h).0 (record { edge = i; cell = c; writes = w }) (access_at h).1 in
      omega (arith, below)

-- ---- order

module _ (tests_edges : IsTestOfEdges) (program : Program) (s : Story) (a b : EdgeId) where
  abbrev are_ordered : Bool
  are_ordered = is_edge_before program (record_of s) a b || is_edge_before program (record_of s) b a

  unordered_of : are_apart (edges_of_story program s) a b ≡ true → AreUnordered program (record_of s) a b
  unordered_of e = record {
    not_before = λ f. not_true are_ordered e (or_left (is_edge_before program (record_of s) a b) (is_edge_before program (record_of s) b a) ((tests_edges program (record_of s) a b).1 f));
    not_after = λ f. not_true are_ordered e (or_right (is_edge_before program (record_of s) a b) (is_edge_before program (record_of s) b a) ((tests_edges program (record_of s) b a).1 f));
  }

  unordered_is : AreUnordered program (record_of s) a b → are_apart (edges_of_story program s) a b ≡ true
  unordered_is u = not_false are_ordered (λ e. elim (or_cases (is_edge_before program (record_of s) a b) (is_edge_before program (record_of s) b a) e) [
    | inl f ↦ u.not_before ((tests_edges program (record_of s) a b).0 f)
    | inr f ↦ u.not_after ((tests_edges program (record_of s) b a).0 f)
  ])

-- ---- candidates

each_kind : (k : RaceKind) → Member k kinds
each_kind ReadWrite = inl refl
each_kind WriteRead = inr (inl refl)
each_kind WriteWrite = inr (inr (inl refl))

same_rise : (r : Race) (p i q j c : ℕ) (k : RaceKind) → r ≡ race p i q j c k → p + 1 ≤ q → r.p < r.q
same_rise r p i q j c k e low =
    let first : r.p ≡ p = ap (λ (z : Race). z.p) e in
    let second : r.q ≡ q = ap (λ (z : Race). z.q) e in
    omega (arith, low, first, second)

module _ (e : Edges) where
  abbrev after : ℕ → List ℕ
  after p = range_with_len (p + 1) (e.processes - (p + 1))

  candidate_in : (p i q j c : ℕ) (k : RaceKind) → p < q → q < e.processes → i < e.count p → j < e.count q → c < e.cells
      → Member (race p i q j c k) (candidates e)
  candidate_in p i q j c k pq hq hi hj hc =
      let r : Race = race p i q j c k in
      in_flat _ p r (range_with_len 0 e.processes) (in_range 0 e.processes p (omega arith) (omega (arith, pq, hq)))
      (in_flat _ i r (own_edges e p) (in_range 0 (e.count p) i (omega arith) (omega (arith, hi)))
      (in_flat _ q r (after p) (in_range (p + 1) (e.processes - (p + 1)) q (omega (arith, pq)) (omega (arith, pq, hq)))
      (in_flat _ j r (own_edges e q) (in_range 0 (e.count q) j (omega arith) (omega (arith, hj)))
      (in_flat (λ cell. map (race p i q j cell) kinds) c r (range_with_len 0 e.cells) (in_range 0 e.cells c (omega arith) (omega (arith, hc)))
      (in_map (race p i q j c) k kinds (each_kind k))))))

  -- the first process has the smaller number
  candidate_rises : (r : Race) → Member r (candidates e) → r.p < r.q
  candidate_rises r m =
      let a = of_flat _ r (range_with_len 0 e.processes) m in
      let b = of_flat _ r (own_edges e a.0) a.2 in
      let c = of_flat _ r (after a.0) b.2 in
      let d = of_flat _ r (own_edges e c.0) c.2 in
      let f = of_flat (λ cell. map (race a.0 b.0 c.0 d.0 cell) kinds) r (range_with_len 0 e.cells) d.2 in
      let g = of_map (race a.0 b.0 c.0 d.0 f.0) r kinds f.2 in
      same_rise r a.0 b.0 c.0 d.0 f.0 g.0 g.2 (of_range (a.0 + 1) (e.processes - (a.0 + 1)) c.0 c.1).0

-- ---- the races

module _ (tests_edges : IsTestOfEdges) (program : Program) (s : Story) (r : Race) where
  abbrev edges : Edges
  edges = edges_of_story program s

  abbrev first_has : Bool
  first_has = has_access s r.p r.i r.cell (first_writes r.kind)

  abbrev second_has : Bool
  second_has = has_access s r.q r.j r.cell (second_writes r.kind)

  abbrev apart : Bool
  apart = are_apart edges (edge r.p r.i) (edge r.q r.j)

  of_listed : Member r (races_among (edges_of_story program s)) → IsUnorderedConflict program s r
  of_listed m =
      let f = of_filter (is_race edges) r (candidates edges) m in
      let accesses = left_true (first_has && second_has) apart f.1 in
      record {
        two_processes = candidate_rises edges r f.0;
        first = access_of s r.p r.i r.cell (first_writes r.kind) (left_true first_has second_has accesses);
        second = access_of s r.q r.j r.cell (second_writes r.kind) (right_true first_has second_has accesses);
        unordered = unordered_of tests_edges program s (edge r.p r.i) (edge r.q r.j) (right_true (first_has && second_has) apart f.1);
      }

  in_listed : r.cell < length s.cells → IsUnorderedConflict program s r → Member r (races_among (edges_of_story program s))
  in_listed there c =
      in_filter (is_race edges) r (candidates edges)
      (candidate_in edges r.p r.i r.q r.j r.cell r.kind c.two_processes (process_there s r.q r.j r.cell (second_writes r.kind) c.second)
      (edge_there s r.p r.i r.cell (first_writes r.kind) c.first) (edge_there s r.q r.j r.cell (second_writes r.kind) c.second) there)
      (and_from (first_has && second_has) apart
      (and_from first_has second_has (access_is s r.p r.i r.cell (first_writes r.kind) c.first) (access_is s r.q r.j r.cell (second_writes r.kind) c.second))
      (unordered_is tests_edges program s (edge r.p r.i) (edge r.q r.j) c.unordered))

pub races_listed : IsTestOfEdges → AccessesAreOfCells → ObjectsStay → (setting : Setting) (h : List ℕ) → IsValid setting.program
    → ListsExactly setting.program (story setting h) (races setting h)
races_listed tests_edges accesses_there objects_stay setting h valid =
    let edges : Edges = edges_of_story setting.program (story setting h) in
    record {
      all_and_only = λ r. (
        λ c. of_listed tests_edges setting.program (story setting h) r (of_contains (races setting h) r c),
        λ u.
            let a = access_at (story setting h) r.p r.i r.cell (first_writes r.kind) u.first in
            let there = accesses_there setting h r.p a.0 (record { edge = r.i; cell = r.cell; writes = first_writes r.kind }) valid a.1 in
            let cells = (objects_stay setting h).cells in
            in_contains (races setting h) r (in_listed tests_edges setting.program (story setting h) r (omega (arith, there, cells)) u),
      );
      each_once = one_place (races setting h) (filter_once (is_race edges) (candidates edges) (candidates_once edges));
    }
