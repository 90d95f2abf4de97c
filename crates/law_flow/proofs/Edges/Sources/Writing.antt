-- The edges whose recorded write set has a cell are those in which the cell is written.
use Rattle.ppd_model.specs.Setting.{Setting}
use Rattle.std.specs.Bool.{beq}
use Rattle.std.proofs.Common.{◌≡◌, ℕ, zero, suc, ◌+◌, ◌<◌, ◌≤◌, List, [], ◌∷◌, ◌++◌, Some, None, Bool, true, false, refl, ap, ap₂, sym, subst, ◌∙◌, arith, length, length-append, map, get_or, true≢false, eq-eqb, eqb-true, inl, inr, ◌&&◌, ◌||◌, if◌then◌else◌}
use Rattle.std.specs.Prelude.{nat_eq, slice_get}
use Rattle.std.specs.List.{list_any, range_with_len}
use Rattle.std.proofs.lemmas.Bool.{and_parts, cases_lt}
use Rattle.std.proofs.lemmas.Option.{none-some}
use Rattle.ppd_ast.specs.Valid.{IsValid}
use Rattle.ppd_ast.specs.Members.{has}
use Rattle.ppd_ast.proofs.ValidLaws.{slice_get_below}
use Rattle.ppd_graph.specs.declared.sets.EdgeSets.{EdgeSets}
use Rattle.ppd_graph.specs.LogRecord.{sets_from, edge_sets_in}
use Rattle.ppd_graph.proofs.ClosedSets.{row_sets, run_sets}
use Rattle.ppd_model.specs.declared.graph.EdgeId.{EdgeId}
use Rattle.ppd_model.specs.HappenedBefore.{edge}
use Rattle.ppd_model.specs.Logs.{closed_logs}
use Rattle.ppd_model.specs.Races.{has_access}
use Rattle.ppd_model.specs.Record.{SharedAccess, accesses}
use Rattle.ppd_model.specs.RecordedSets.{last_edge}
use Rattle.ppd_model.specs.SharedReads.{WritesIn}
use Rattle.ppd_model.specs.Story.{story}
use Rattle.ppd_model.proofs.AccessSets.{cells_are}
use Rattle.ppd_model.proofs.Changes.{some}
use Rattle.ppd_model.proofs.Tested.{In, here, there, in_left, in_right}
use Rattle.ppd_model.proofs.RaceFree.{any_at}
use Rattle.law_flow.proofs.Edges.Sources.Members.{in_cases, in_either, no_member}
use Rattle.ppd_graph.specs.Shared.{writing, writing_from, writing_in}

-- ---- membership

-- a is one of these edges of process p
record IsOfRow (c p i : ℕ) (ss : List EdgeSets) (a : EdgeId) : Type 0 where
  place : ℕ
  sets : EdgeSets
  there' : slice_get ss place ≡ Some sets
  writes : has sets.writes c ≡ true
  is : a ≡ edge p (i + place)

later_in_row : (c p i : ℕ) (s : EdgeSets) (ss : List EdgeSets) (a : EdgeId) → IsOfRow c p (i + 1) ss a → IsOfRow c p i (s ∷ ss) a
later_in_row c p i s ss a r = record { place = suc r.place; sets = r.sets; there' = r.there'; writes = r.writes; is = r.is ∙ ap (edge p) (let z : i + 1 + r.place ≡ i + suc r.place = omega arith in z) }

row_only : (c p i : ℕ) (ss : List EdgeSets) (a : EdgeId) → In a (writing_in c p i ss) → IsOfRow c p i ss a
row_only c p i [] a m = absurd (no_member m)
row_only c p i (s ∷ ss) a m = by (has s.writes c) refl m (row_only c p (i + 1) ss a)
  where
    by : (b : Bool) → has s.writes c ≡ b → In a (if b then edge p i ∷ writing_in c p (i + 1) ss else writing_in c p (i + 1) ss) → (In a (writing_in c p (i + 1) ss) → IsOfRow c p (i + 1) ss a) → IsOfRow c p i (s ∷ ss) a
    by true e m' rest = elim (in_cases a (edge p i) (writing_in c p (i + 1) ss) m') [
      | inl same ↦ record { place = 0; sets = s; there' = refl; writes = e; is = same ∙ ap (edge p) (let z : i ≡ i + 0 = omega arith in z) }
      | inr later ↦ later_in_row c p i s ss a (rest later)
    ]
    by false e m' rest = later_in_row c p i s ss a (rest m')

row_all : (c p i : ℕ) (ss : List EdgeSets) (d : ℕ) (s : EdgeSets) → slice_get ss d ≡ Some s → has s.writes c ≡ true → In (edge p (i + d)) (writing_in c p i ss)
row_all c p i [] d s e w = absurd (none-some s e)
row_all c p i (z ∷ ss) zero s e w =
    let same : z ≡ s = some e in
    let y : i ≡ i + 0 = omega arith in
    subst (λ b. In (edge p (i + 0)) (if b then edge p i ∷ writing_in c p (i + 1) ss else writing_in c p (i + 1) ss)) (sym (ap (λ (q : EdgeSets). has q.writes c) same ∙ w)) (subst (λ k. In (edge p k) (edge p i ∷ writing_in c p (i + 1) ss)) y here)
row_all c p i (z ∷ ss) (suc d) s e w =
    let rest : In (edge p (i + 1 + d)) (writing_in c p (i + 1) ss) = row_all c p (i + 1) ss d s e w in
    let y : i + 1 + d ≡ i + suc d = omega arith in
    more (has z.writes c) (subst (λ k. In (edge p k) (writing_in c p (i + 1) ss)) y rest)
  where
    more : (b : Bool) → In (edge p (i + suc d)) (writing_in c p (i + 1) ss) → In (edge p (i + suc d)) (if b then edge p i ∷ writing_in c p (i + 1) ss else writing_in c p (i + 1) ss)
    more true m = there m
    more false m = m

-- a is one of these edges of the processes from number p on
record IsOfRows (c p : ℕ) (rows : List (List EdgeSets)) (a : EdgeId) : Type 0 where
  row : ℕ
  process_is : a.process ≡ p + row
  sets : EdgeSets
  there' : slice_get (get_or rows row []) a.edge ≡ Some sets
  writes : has sets.writes c ≡ true

rows_only : (c p : ℕ) (rows : List (List EdgeSets)) (a : EdgeId) → In a (writing_from c p rows) → IsOfRows c p rows a
rows_only c p [] a m = absurd (no_member m)
rows_only c p (ss ∷ rows) a m = elim (in_either a (writing_in c p 0 ss) (writing_from c (p + 1) rows) m) [
  | inl first ↦
      let r = row_only c p 0 ss a first in
      let number : a.edge ≡ r.place = ap (λ (q : EdgeId). q.edge) r.is ∙ (let z : 0 + r.place ≡ r.place = omega arith in z) in
      record {
        row = 0;
        process_is = ap (λ (q : EdgeId). q.process) r.is ∙ (let z : p ≡ p + 0 = omega arith in z);
        sets = r.sets;
        there' = ap (λ k. slice_get ss k) number ∙ r.there';
        writes = r.writes;
      }
  | inr later ↦
      let r = rows_only c (p + 1) rows a later in
      record { row = suc r.row; process_is = r.process_is ∙ (let z : p + 1 + r.row ≡ p + suc r.row = omega arith in z); sets = r.sets; there' = r.there'; writes = r.writes }
]

rows_all : (c p : ℕ) (rows : List (List EdgeSets)) (d i : ℕ) (s : EdgeSets) → slice_get (get_or rows d []) i ≡ Some s → has s.writes c ≡ true → In (edge (p + d) i) (writing_from c p rows)
rows_all c p [] d i s e w = absurd (none-some s e)
rows_all c p (ss ∷ rows) zero i s e w =
    let one : In (edge p (0 + i)) (writing_in c p 0 ss) = row_all c p 0 ss i s e w in
    let z : 0 + i ≡ i = omega arith in
    let y : p ≡ p + 0 = omega arith in
    in_left (edge (p + 0) i) (writing_in c p 0 ss) (writing_from c (p + 1) rows) (subst (λ k. In (edge k i) (writing_in c p 0 ss)) y (subst (λ k. In (edge p k) (writing_in c p 0 ss)) z one))
rows_all c p (ss ∷ rows) (suc d) i s e w =
    let z : p + 1 + d ≡ p + suc d = omega arith in
    in_right (edge (p + suc d) i) (writing_in c p 0 ss) (writing_from c (p + 1) rows) (subst (λ k. In (edge k i) (writing_from c (p + 1) rows)) z (rows_all c (p + 1) rows d i s e w))

-- ---- accesses

any_found : {A : Type 0} (t : A → Bool) (xs : List A) → list_any t xs ≡ true → (m : ℕ) × (a : A) × (slice_get xs m ≡ Some a) × (t a ≡ true)
any_found t [] e = absurd (true≢false (sym e))
any_found t (x ∷ xs) e = by (t x) refl e (any_found t xs)
  where
    by : (b : Bool) → t x ≡ b → (b || list_any t xs) ≡ true → (list_any t xs ≡ true → (m : ℕ) × (a : _) × (slice_get xs m ≡ Some a) × (t a ≡ true)) → (m : ℕ) × (a : _) × (slice_get (x ∷ xs) m ≡ Some a) × (t a ≡ true)
    by true f g rest = (0, x, refl, f)
    by false f g rest = let r = rest g in (suc r.0, r.1, r.2, r.3)

-- a list of the first n and one more
through_at : {A : Type 0} (f : ℕ → A) (n i : ℕ) → i ≤ n → slice_get (map f (range_with_len 0 n) ++ f n ∷ []) i ≡ Some (f i)
through_at f n i le = by 0 n (omega arith) i le ∙ ap (λ k. Some (f k)) (let z : 0 + i ≡ i = omega arith in z)
  where
    by : (a m : ℕ) → a + m ≡ n → (j : ℕ) → j ≤ m → slice_get (map f (range_with_len a m) ++ f n ∷ []) j ≡ Some (f (a + j))
    by a zero e zero le' = ap (λ k. Some (f k)) (let z : n ≡ a + 0 = omega (arith, e) in z)
    by a zero e (suc j) le' = absurd (omega (arith, le'))
    by a (suc m) e zero le' = ap (λ k. Some (f k)) (let z : a ≡ a + 0 = omega arith in z)
    by a (suc m) e (suc j) le' = by (a + 1) m (let z : a + 1 + m ≡ n = omega (arith, e) in z) j (omega (arith, le')) ∙ ap (λ k. Some (f k)) (let z : a + 1 + j ≡ a + suc j = omega arith in z)

through_only : {A : Type 0} (f : ℕ → A) (n i : ℕ) (y : A) → slice_get (map f (range_with_len 0 n) ++ f n ∷ []) i ≡ Some y → y ≡ f i
through_only f n i y e = elim (cases_lt n i) [
  | inl over ↦ absurd (let lt : i < length (map f (range_with_len 0 n) ++ f n ∷ []) = slice_get_below (map f (range_with_len 0 n) ++ f n ∷ []) i y e in let long : length (map f (range_with_len 0 n) ++ f n ∷ []) ≡ n + 1 = length-append (map f (range_with_len 0 n)) (f n ∷ []) ∙ ap (λ k. k + 1) (count 0 n) in omega (arith, lt, long, over))
  | inr within ↦ some (sym e ∙ through_at f n i within)
]
  where
    count : (a m : ℕ) → length (map f (range_with_len a m)) ≡ m
    count a zero = refl
    count a (suc m) = ap (λ k. suc k) (count (a + 1) m)

beyond : {A B : Type 0} (f : List A → List B) (rows : List (List A)) (q : ℕ) → length rows ≤ q → get_or (map f rows) q [] ≡ []
beyond f [] q le = refl
beyond f (row ∷ rows) zero le = absurd (omega (arith, le))
beyond f (row ∷ rows) (suc q) le = beyond f rows q (omega (arith, le))

is_so : (b : Bool) → beq b true ≡ true → b ≡ true
is_so true e = refl
is_so false e = e

module _ (setting : Setting) (h : List ℕ) (valid : IsValid setting.program) where
  -- the write set of an edge
  has_is : (p i c : ℕ) → has (run_sets (story setting h) p i).writes c ≡ has_access (story setting h) p i c true
  unfolding run_sets
  has_is p i c = (cells_are (story setting h) p i true).are c

  pub writing_only : (c : ℕ) (a : EdgeId) → In a (writing (closed_logs setting h) c) → WritesIn setting h c a.process a.edge
  writing_only c a m =
      let r = rows_only c 0 (edge_sets_in (closed_logs setting h)) a m in
      let process : a.process ≡ r.row = r.process_is ∙ (let z : 0 + r.row ≡ r.row = omega arith in z) in
      elim (cases_lt r.row (length (closed_logs setting h).lists)) [
        | inl lt ↦
            let sets : r.sets ≡ run_sets (story setting h) r.row a.edge = through_only (run_sets (story setting h) r.row) (last_edge (story setting h) r.row) a.edge r.sets (ap (λ l. slice_get l a.edge) (sym (row_sets setting h valid r.row lt)) ∙ r.there') in
            let access : has_access (story setting h) r.row a.edge c true ≡ true = sym (has_is r.row a.edge c) ∙ ap (λ (q : EdgeSets). has q.writes c) (sym sets) ∙ r.writes in
            let f = any_found (λ (b : SharedAccess). nat_eq b.edge a.edge && nat_eq b.cell c && beq b.writes true) (accesses (story setting h) r.row) access in
            let more = and_parts (nat_eq f.1.edge a.edge && nat_eq f.1.cell c) (beq f.1.writes true) f.3 in
            let parts = and_parts (nat_eq f.1.edge a.edge) (nat_eq f.1.cell c) more.0 in
            subst (λ q. WritesIn setting h c q a.edge) (sym process) (record { number = f.0; access = f.1; there = f.2; cell = eqb-true f.1.cell c parts.1; edge_is = eqb-true f.1.edge a.edge parts.0; writes = is_so f.1.writes more.1 })
        | inr ge ↦ absurd (none-some r.sets (ap (λ l. slice_get l a.edge) (sym (beyond (sets_from None) (closed_logs setting h).lists r.row ge)) ∙ r.there'))
      ]

  pub writing_all : (c q i : ℕ) → WritesIn setting h c q i → q < length (closed_logs setting h).lists → i ≤ last_edge (story setting h) q → In (edge q i) (writing (closed_logs setting h) c)
  writing_all c q i w lt le =
      let there' : slice_get (get_or (edge_sets_in (closed_logs setting h)) q []) i ≡ Some (run_sets (story setting h) q i) = ap (λ l. slice_get l i) (row_sets setting h valid q lt) ∙ through_at (run_sets (story setting h) q) (last_edge (story setting h) q) i le in
      let access : has_access (story setting h) q i c true ≡ true =
      any_at (λ (b : SharedAccess). nat_eq b.edge i && nat_eq b.cell c && beq b.writes true) (accesses (story setting h) q) w.number w.access w.there
      (ap₂ (λ x y. x && y) (ap₂ (λ x y. x && y) (eq-eqb w.access.edge i w.edge_is) (eq-eqb w.access.cell c w.cell)) (ap (λ b. beq b true) w.writes)) in
      let z : 0 + q ≡ q = omega arith in
      subst (λ k. In (edge k i) (writing (closed_logs setting h) c)) z (rows_all c 0 (edge_sets_in (closed_logs setting h)) q i (run_sets (story setting h) q i) there' (has_is q i c ∙ access))
