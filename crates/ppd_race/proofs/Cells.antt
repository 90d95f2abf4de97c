-- The races of two busy edges are those of their cells; an edge that accesses nothing has none.
use Rattle.std.proofs.Common.{◌≡◌, ℕ, zero, suc, ◌+◌, ◌<◌, ◌≤◌, List, [], ◌∷◌, ◌++◌, Bool, true, false, cond, not, refl, ap, ap₂, sym, subst, ◌∙◌, arith, map, filter, true≢false, ne_eqb, inl, inr, ◌&&◌, ◌||◌}
use Rattle.std.specs.Prelude.{IsTrue, nat_eq, if◌then◌else◌}
use Rattle.std.specs.List.{flat_map, range_with_len}
use Rattle.std.proofs.lemmas.Bool.{and_left, and_right, cases_eq, or_parts}
use Rattle.ppd_ast.specs.Members.{has, RisesFrom, AreBelow}
use Rattle.ppd_ast.proofs.Members.{has_first}
use Rattle.ppd_ast.specs.declared.limits.TheConstants.{MOST_SHARED_CELLS}
use Rattle.ppd_model.specs.declared.graph.EdgeId.{EdgeId}
use Rattle.ppd_model.specs.declared.graph.Race.{Race}
use Rattle.ppd_model.specs.declared.graph.RaceKind.{RaceKind}
use Rattle.ppd_model.specs.declared.graph.RaceKind.TheVariants.{ReadWrite, WriteRead, WriteWrite}
use Rattle.ppd_model.specs.HappenedBefore.{edge}
use Rattle.ppd_model.specs.Races.{candidates_at, first_writes, is_race, kinds, race, second_writes}
use Rattle.ppd_model.proofs.OrderWords.{are_apart}
use Rattle.ppd_race_found.specs.SyncGraph.{SyncGraph}
use Rattle.ppd_race_found.specs.Graphs.{is_before_by, reads_in, sets_at, writes_in}
use Rattle.ppd_race_found.specs.declared.busy.Busy.{Busy}
use Rattle.ppd_race.specs.Busy.{IsBusyOf, is_busy, is_none, race_if, races_all, races_at, races_between}
use Rattle.ppd_race_found.specs.Search.{race_of}
use Rattle.ppd_race.specs.Races.{edges_of_graph, most_cells}
use Rattle.ppd_race.proofs.ByPairs.{filter_flat, flat_none, none_if_ordered}

flat_range_same : {A : Type 0} (f g : ℕ → List A) (a n m : ℕ) → a + n ≡ m → ((c : ℕ) → c < m → f c ≡ g c) → flat_map f (range_with_len a n) ≡ flat_map g (range_with_len a n)
flat_range_same f g a zero m e h = refl
flat_range_same f g a (suc n) m e h = ap₂ (λ r s. r ++ s) (h a (omega (arith, e))) (flat_range_same f g (a + 1) n m (omega (arith, e)) h)

-- ---- a rising list in place of all numbers

pub not_below : (n c : ℕ) (xs : List ℕ) → RisesFrom n xs → c < n → has xs c ≡ false
not_below n c [] r lt = refl
not_below n c (x ∷ xs) r lt =
    ap₂ (λ a b. a || b) (ne_eqb x c (λ e. absurd (omega (arith, e, lt, r.0)))) (not_below (x + 1) c xs r.1 (omega (arith, lt, r.0)))

rises_more : (n : ℕ) (x : ℕ) (xs : List ℕ) → RisesFrom n (x ∷ xs) → n < x → RisesFrom (n + 1) (x ∷ xs)
rises_more n x xs r lt = (omega (arith, lt), r.1)

pub below_rest : (m x : ℕ) (xs : List ℕ) → AreBelow m (x ∷ xs) → AreBelow m xs
below_rest m x xs h c t = h c (later (nat_eq x c) t)
  where
    later : (b : Bool) → IsTrue (has xs c) → (b || has xs c) ≡ true
    later true k = refl
    later false k = k

none_above : {A : Type 0} (f : ℕ → List A) (a n : ℕ) → ((c : ℕ) → a ≤ c → f c ≡ []) → flat_map f (range_with_len a n) ≡ []
none_above f a zero h = refl
none_above f a (suc n) h = ap₂ (λ r s. r ++ s) (h a (omega arith)) (none_above f (a + 1) n (λ c le. h c (omega (arith, le))))

pub rising_cells : {A : Type 0} (f : ℕ → List A) (a n m : ℕ) (xs : List ℕ) → a + n ≡ m → RisesFrom a xs → AreBelow m xs → ((c : ℕ) → a ≤ c → has xs c ≡ false → f c ≡ []) → flat_map f (range_with_len a n) ≡ flat_map f xs
rising_cells f a n m [] e r b none = none_above f a n (λ c le. none c le refl)
rising_cells f a zero m (x ∷ xs) e r b none = let lt : x < m = b x (has_first x xs) in absurd (omega (arith, lt, e, r.0))
rising_cells f a (suc n) m (x ∷ xs) e r b none = elim (cases_eq a x) [
  | inl same ↦
      let rest : RisesFrom (a + 1) xs = subst (λ k. RisesFrom (k + 1) xs) (sym same) r.1 in
      ap₂ (λ s t. s ++ t) (ap f same) (rising_cells f (a + 1) n m xs (omega (arith, e)) rest (below_rest m x xs b) (λ c le t. none c (omega (arith, le)) (ap₂ (λ u v. u || v) (ne_eqb x c (λ k. absurd (omega (arith, k, le, same)))) t)))
  | inr other ↦
      let lt : a < x = omega (arith, other, r.0) in
      let here : f a ≡ [] = none a (omega arith) (ap₂ (λ u v. u || v) (ne_eqb x a (λ k. absurd (omega (arith, k, lt)))) (not_below (x + 1) a xs r.1 (omega (arith, lt)))) in
      ap (λ s. s ++ flat_map f (range_with_len (a + 1) n)) here ∙ rising_cells f (a + 1) n m (x ∷ xs) (omega (arith, e)) (rises_more a x xs r lt) b (λ c le t. none c (omega (arith, le)) t)
]

-- ---- one cell

pub three : {A : Type 0} (x y z : Bool) (r s t : A) → cond x (r ∷ cond y (s ∷ cond z (t ∷ []) []) (cond z (t ∷ []) [])) (cond y (s ∷ cond z (t ∷ []) []) (cond z (t ∷ []) [])) ≡ (if x then r ∷ [] else []) ++ ((if y then s ∷ [] else []) ++ (if z then t ∷ [] else []))
three true true true r s t = refl
three true true false r s t = refl
three true false true r s t = refl
three true false false r s t = refl
three false true true r s t = refl
three false true false r s t = refl
three false false true r s t = refl
three false false false r s t = refl

with_true : (x b : Bool) → b ≡ true → (x && b) ≡ x
with_true true b e = e
with_true false b e = refl

under : (c : ℕ) → c < most_cells → c < MOST_SHARED_CELLS
unfolding most_cells
under c h = h

below_most : (xs : List ℕ) → AreBelow MOST_SHARED_CELLS xs → AreBelow most_cells xs
unfolding most_cells
below_most xs h = h

module _ (g : SyncGraph) where
  cell_races : (a b : Busy) (c : ℕ) → c < most_cells → IsBusyOf a.edge (sets_at g.edges a.edge) a → IsBusyOf b.edge (sets_at g.edges b.edge) b → are_apart (edges_of_graph g) a.edge b.edge ≡ true
      → filter (is_race (edges_of_graph g)) (map (race a.edge.process a.edge.edge b.edge.process b.edge.edge c) kinds) ≡ races_at a b c
  cell_races a b c lt x y apart =
      let of : (v w : Bool) → (k : Bool) → k ≡ (v && w && are_apart (edges_of_graph g) a.edge b.edge) → k ≡ (v && w) = λ v w k e. e ∙ with_true (v && w) (are_apart (edges_of_graph g) a.edge b.edge) apart in
      let rw_is : is_race (edges_of_graph g) (race a.edge.process a.edge.edge b.edge.process b.edge.edge c ReadWrite) ≡ (has a.reads c && has b.writes c) = of (has (reads_in g a.edge) c) (has (writes_in g b.edge) c) _ refl ∙ ap₂ (λ v w. v && w) (sym (x.reads c (under c lt))) (sym (y.writes c (under c lt))) in
      let wr_is : is_race (edges_of_graph g) (race a.edge.process a.edge.edge b.edge.process b.edge.edge c WriteRead) ≡ (has a.writes c && has b.reads c) = of (has (writes_in g a.edge) c) (has (reads_in g b.edge) c) _ refl ∙ ap₂ (λ v w. v && w) (sym (x.writes c (under c lt))) (sym (y.reads c (under c lt))) in
      let ww_is : is_race (edges_of_graph g) (race a.edge.process a.edge.edge b.edge.process b.edge.edge c WriteWrite) ≡ (has a.writes c && has b.writes c) = of (has (writes_in g a.edge) c) (has (writes_in g b.edge) c) _ refl ∙ ap₂ (λ v w. v && w) (sym (x.writes c (under c lt))) (sym (y.writes c (under c lt))) in
      three (is_race (edges_of_graph g) (race a.edge.process a.edge.edge b.edge.process b.edge.edge c ReadWrite)) (is_race (edges_of_graph g) (race a.edge.process a.edge.edge b.edge.process b.edge.edge c WriteRead)) (is_race (edges_of_graph g) (race a.edge.process a.edge.edge b.edge.process b.edge.edge c WriteWrite))
      (race a.edge.process a.edge.edge b.edge.process b.edge.edge c ReadWrite) (race a.edge.process a.edge.edge b.edge.process b.edge.edge c WriteRead) (race a.edge.process a.edge.edge b.edge.process b.edge.edge c WriteWrite)
      ∙ ap₂ (λ r s. r ++ s) (ap (λ k. if k then race a.edge.process a.edge.edge b.edge.process b.edge.edge c ReadWrite ∷ [] else []) rw_is)
      (ap₂ (λ r s. r ++ s) (ap (λ k. if k then race a.edge.process a.edge.edge b.edge.process b.edge.edge c WriteRead ∷ [] else []) wr_is) (ap (λ k. if k then race a.edge.process a.edge.edge b.edge.process b.edge.edge c WriteWrite ∷ [] else []) ww_is))

  -- ---- one pair

  no_race : (a b : Busy) (c : ℕ) → (has b.reads c || has b.writes c) ≡ false → races_at a b c ≡ []
  no_race a b c e =
      let parts = or_parts (has b.reads c) (has b.writes c) e in
      ap₂ (λ r s. r ++ s) (none (has a.reads c) (has b.writes c) (race_of a.edge b.edge c ReadWrite) parts.1)
      (ap₂ (λ r s. r ++ s) (none (has a.writes c) (has b.reads c) (race_of a.edge b.edge c WriteRead) parts.0) (none (has a.writes c) (has b.writes c) (race_of a.edge b.edge c WriteWrite) parts.1))
    where
      none : (s t : Bool) (r : Race) → t ≡ false → race_if (s && t) r ≡ []
      none true true r e = absurd (true≢false e)
      none true false r e = refl
      none false t r e = refl

  pub pair_races : (a b : Busy) → IsBusyOf a.edge (sets_at g.edges a.edge) a → IsBusyOf b.edge (sets_at g.edges b.edge) b
      → races_between g a b ≡ filter (is_race (edges_of_graph g)) (candidates_at (edges_of_graph g) a.edge.process a.edge.edge b.edge.process b.edge.edge)
  pair_races a b x y = by (is_before_by g a.edge b.edge) (is_before_by g b.edge a.edge) refl refl
    where
      by : (u v : Bool) → is_before_by g a.edge b.edge ≡ u → is_before_by g b.edge a.edge ≡ v
          → (if not u && not v then races_all a b else []) ≡ filter (is_race (edges_of_graph g)) (candidates_at (edges_of_graph g) a.edge.process a.edge.edge b.edge.process b.edge.edge)
      by true v e f = sym (none_if_ordered (edges_of_graph g) a.edge.process a.edge.edge b.edge.process b.edge.edge (ap (λ t. not (t || is_before_by g b.edge a.edge)) e))
      by false true e f = sym (none_if_ordered (edges_of_graph g) a.edge.process a.edge.edge b.edge.process b.edge.edge (ap₂ (λ t w. not (t || w)) e f))
      by false false e f =
          let apart : are_apart (edges_of_graph g) a.edge b.edge ≡ true = ap₂ (λ t w. not (t || w)) e f in
          sym (rising_cells (races_at a b) 0 most_cells most_cells b.cells (omega arith) y.rises (below_most b.cells y.below) (λ c le none. no_race a b c (sym (y.all c) ∙ none)))
          ∙ sym (filter_flat (is_race (edges_of_graph g)) (λ cell. map (race a.edge.process a.edge.edge b.edge.process b.edge.edge cell) kinds) (range_with_len 0 most_cells)
          ∙ flat_range_same (λ cell. filter (is_race (edges_of_graph g)) (map (race a.edge.process a.edge.edge b.edge.process b.edge.edge cell) kinds)) (races_at a b) 0 most_cells most_cells (omega arith) (λ c lt. cell_races a b c lt x y apart))

  -- ---- what accesses nothing races with nothing

  none_has : (xs : List ℕ) (c : ℕ) → is_none xs ≡ true → has xs c ≡ false
  none_has [] c e = refl
  none_has (x ∷ xs) c e = absurd (true≢false (sym e))

  idle_parts : (e : EdgeId) → is_busy (sets_at g.edges e) ≡ false → (is_none (reads_in g e) ≡ true) × (is_none (writes_in g e) ≡ true)
  idle_parts e h = by (is_none (reads_in g e)) (is_none (writes_in g e)) h
    where
      by : (r w : Bool) → not (r && w) ≡ false → (r ≡ true) × (w ≡ true)
      by true true k = (refl, refl)
      by true false k = absurd (true≢false k)
      by false w k = absurd (true≢false k)

  idle : (e : EdgeId) (c : ℕ) (w : Bool) → is_busy (sets_at g.edges e) ≡ false → (edges_of_graph g).accesses e c w ≡ false
  idle e c true h = none_has (writes_in g e) c (idle_parts e h).1
  idle e c false h = none_has (reads_in g e) c (idle_parts e h).0

  -- of two edges one of which accesses nothing there is no race over a cell
  first_idle : (p i q j c : ℕ) (k : RaceKind) → is_busy (sets_at g.edges (edge p i)) ≡ false → is_race (edges_of_graph g) (race p i q j c k) ≡ false
  first_idle p i q j c k h =
      and_left ((edges_of_graph g).accesses (edge p i) c (first_writes k) && (edges_of_graph g).accesses (edge q j) c (second_writes k)) (are_apart (edges_of_graph g) (edge p i) (edge q j))
      (and_left ((edges_of_graph g).accesses (edge p i) c (first_writes k)) ((edges_of_graph g).accesses (edge q j) c (second_writes k)) (idle (edge p i) c (first_writes k) h))

  second_idle : (p i q j c : ℕ) (k : RaceKind) → is_busy (sets_at g.edges (edge q j)) ≡ false → is_race (edges_of_graph g) (race p i q j c k) ≡ false
  second_idle p i q j c k h =
      and_left ((edges_of_graph g).accesses (edge p i) c (first_writes k) && (edges_of_graph g).accesses (edge q j) c (second_writes k)) (are_apart (edges_of_graph g) (edge p i) (edge q j))
      (and_right ((edges_of_graph g).accesses (edge p i) c (first_writes k)) ((edges_of_graph g).accesses (edge q j) c (second_writes k)) (idle (edge q j) c (second_writes k) h))

  none_passes : (p i q j c : ℕ) → ((k : RaceKind) → is_race (edges_of_graph g) (race p i q j c k) ≡ false) → filter (is_race (edges_of_graph g)) (map (race p i q j c) kinds) ≡ []
  none_passes p i q j c never =
      three (is_race (edges_of_graph g) (race p i q j c ReadWrite)) (is_race (edges_of_graph g) (race p i q j c WriteRead)) (is_race (edges_of_graph g) (race p i q j c WriteWrite)) (race p i q j c ReadWrite) (race p i q j c WriteRead) (race p i q j c WriteWrite)
      ∙ ap₂ (λ r s. r ++ s) (ap (λ k. if k then race p i q j c ReadWrite ∷ [] else []) (never ReadWrite))
      (ap₂ (λ r s. r ++ s) (ap (λ k. if k then race p i q j c WriteRead ∷ [] else []) (never WriteRead)) (ap (λ k. if k then race p i q j c WriteWrite ∷ [] else []) (never WriteWrite)))

  all_pass_none : (p i q j : ℕ) → ((c : ℕ) (k : RaceKind) → is_race (edges_of_graph g) (race p i q j c k) ≡ false) → filter (is_race (edges_of_graph g)) (candidates_at (edges_of_graph g) p i q j) ≡ []
  all_pass_none p i q j never =
      filter_flat (is_race (edges_of_graph g)) (λ cell. map (race p i q j cell) kinds) (range_with_len 0 most_cells)
      ∙ flat_none (λ cell. filter (is_race (edges_of_graph g)) (map (race p i q j cell) kinds)) (range_with_len 0 most_cells) (λ c. none_passes p i q j c (never c))

  pub first_none : (p i q j : ℕ) → is_busy (sets_at g.edges (edge p i)) ≡ false → filter (is_race (edges_of_graph g)) (candidates_at (edges_of_graph g) p i q j) ≡ []
  first_none p i q j h = all_pass_none p i q j (λ c k. first_idle p i q j c k h)

  pub second_none : (p i q j : ℕ) → is_busy (sets_at g.edges (edge q j)) ≡ false → filter (is_race (edges_of_graph g)) (candidates_at (edges_of_graph g) p i q j) ≡ []
  second_none p i q j h = all_pass_none p i q j (λ c k. second_idle p i q j c k h)
