-- The races of the busy edges are all races of the graph.
use Rattle.std.proofs.Common.{◌≡◌, ℕ, zero, suc, ◌+◌, ◌-◌, ◌<◌, ◌≤◌, List, [], ◌∷◌, ◌++◌, Bool, true, false, cond, refl, ap, ap₂, sym, subst, ◌∙◌, arith, length, map, filter, get_or}
use Rattle.std.specs.List.{flat_map, range_with_len}
use Rattle.ppd_model.specs.declared.graph.Race.{Race}
use Rattle.ppd_model.specs.HappenedBefore.{edge}
use Rattle.ppd_model.specs.Races.{candidates_at, is_race, races_among}
use Rattle.ppd_model.proofs.OrderWords.{own_edges}
use Rattle.ppd_race_found.specs.EdgeSets.{EdgeSets}
use Rattle.ppd_race_found.specs.SyncGraph.{SyncGraph}
use Rattle.ppd_race_found.specs.Graphs.{sets_at}
use Rattle.ppd_race_found.specs.declared.busy.Busy.{Busy}
use Rattle.ppd_race.specs.Busy.{AreBusyRows, EachBusyIn, IsBusyIn, IsBusyOf, IsBusyRow, is_busy_in, races_between, races_by_rows, races_from, races_with_later}
use Rattle.ppd_race_found.specs.Search.{IsRising}
use Rattle.ppd_race.specs.Races.{AreRacesOf, edges_of_graph}
use Rattle.ppd_race.proofs.Alike.{graph_races}
use Rattle.ppd_race.proofs.Cells.{first_none, pair_races, second_none}
use Rattle.ppd_race.proofs.ByPairs.{filtered, flat_none, flat_of_map}

-- ---- kept numbers in place of all

flat_kept : {B : Type 0} (h : ℕ → List B) (test : ℕ → Bool) (xs : List ℕ) → ((j : ℕ) → test j ≡ false → h j ≡ []) → flat_map h xs ≡ flat_map h (filter test xs)
flat_kept h test [] none = refl
flat_kept h test (x ∷ xs) none = by (test x) refl (flat_kept h test xs none)
  where
    by : (b : Bool) → test x ≡ b → flat_map h xs ≡ flat_map h (filter test xs) → h x ++ flat_map h xs ≡ flat_map h (cond b (x ∷ filter test xs) (filter test xs))
    by true e k = ap (λ r. h x ++ r) k
    by false e k = ap₂ (λ r s. r ++ s) (none x e) k

flat_each : {B : Type 0} (q : ℕ) (own : List EdgeSets) (k : Busy → List B) (h : ℕ → List B) (row : List Busy) → EachBusyIn q own row → ((b : Busy) → IsBusyIn q own b → k b ≡ h b.edge.edge) → flat_map k row ≡ flat_map (λ b. h b.edge.edge) row
flat_each q own k h [] each same = refl
flat_each q own k h (b ∷ bs) each same = ap₂ (λ r s. r ++ s) (same b each.0) (flat_each q own k h bs each.1 same)

-- what is found over a row of busy edges is found over all edges of its process
over_row : {B : Type 0} (q : ℕ) (own : List EdgeSets) (row : List Busy) (k : Busy → List B) (h : ℕ → List B) → IsBusyRow q own row → ((j : ℕ) → is_busy_in own j ≡ false → h j ≡ []) → ((b : Busy) → IsBusyIn q own b → k b ≡ h b.edge.edge)
    → flat_map k row ≡ flat_map h (range_with_len 0 (length own))
over_row q own row k h busy none same =
    flat_each q own k h row busy.each same ∙ sym (flat_of_map h (λ b. b.edge.edge) row) ∙ ap (flat_map h) busy.names ∙ sym (flat_kept h (is_busy_in own) (range_with_len 0 (length own)) none)

flat_range_same : {A : Type 0} (f g : ℕ → List A) (a n m : ℕ) → a + n ≤ m → ((c : ℕ) → a ≤ c → c < m → f c ≡ g c) → flat_map f (range_with_len a n) ≡ flat_map g (range_with_len a n)
flat_range_same f g a zero m e h = refl
flat_range_same f g a (suc n) m e h = ap₂ (λ r s. r ++ s) (h a (omega arith) (omega (arith, e))) (flat_range_same f g (a + 1) n m (omega (arith, e)) (λ c le lt. h c (omega (arith, le)) lt))

module _ (g : SyncGraph) (rows : List (List Busy)) (are : AreBusyRows g.edges rows) where
  -- the races of edges (p, i) and (q, j)
  races_at_pair : ℕ → ℕ → ℕ → ℕ → List Race
  races_at_pair p i q j = filter (is_race (edges_of_graph g)) (candidates_at (edges_of_graph g) p i q j)

  named : (q : ℕ) (b : Busy) → IsBusyIn q (get_or g.edges q []) b → IsBusyOf b.edge (sets_at g.edges b.edge) b
  named q b x = subst (λ k. IsBusyOf b.edge (sets_at g.edges (edge k b.edge.edge)) b) (sym x.process) x.busy

  pair : (p q : ℕ) (a b : Busy) → IsBusyIn p (get_or g.edges p []) a → IsBusyIn q (get_or g.edges q []) b → races_between g a b ≡ races_at_pair p a.edge.edge q b.edge.edge
  unfolding races_at_pair
  pair p q a b x y =
      pair_races g a b (named p a x) (named q b y)
      ∙ ap₂ (λ r s. filter (is_race (edges_of_graph g)) (candidates_at (edges_of_graph g) r a.edge.edge s b.edge.edge)) x.process y.process

  later : ℕ → ℕ → List Race
  later p i = flat_map (λ q. flat_map (races_at_pair p i q) (own_edges (edges_of_graph g) q)) (range_with_len (p + 1) (length g.edges - (p + 1)))

  with_later : (p : ℕ) (a : Busy) → p < length rows → IsBusyIn p (get_or g.edges p []) a → races_with_later g rows p a ≡ later p a.edge.edge
  unfolding later races_at_pair
  with_later p a lt x =
      flat_range_same (λ q. flat_map (races_between g a) (get_or rows q [])) (λ q. flat_map (races_at_pair p a.edge.edge q) (own_edges (edges_of_graph g) q)) (p + 1) (length rows - (p + 1)) (length rows) (omega (arith, lt)) (λ q le less.
      over_row q (get_or g.edges q []) (get_or rows q []) (races_between g a) (races_at_pair p a.edge.edge q) (are.row q less)
      (λ j idle. second_none g p a.edge.edge q j idle) (λ b y. pair p q a b x y))
      ∙ ap (λ n. flat_map (λ q. flat_map (races_at_pair p a.edge.edge q) (own_edges (edges_of_graph g) q)) (range_with_len (p + 1) (n - (p + 1)))) are.processes

  later_none : (p i : ℕ) → is_busy_in (get_or g.edges p []) i ≡ false → later p i ≡ []
  unfolding later races_at_pair
  later_none p i idle =
      flat_none (λ q. flat_map (races_at_pair p i q) (own_edges (edges_of_graph g) q)) (range_with_len (p + 1) (length g.edges - (p + 1))) (λ q.
      flat_none (races_at_pair p i q) (own_edges (edges_of_graph g) q) (λ j. first_none g p i q j idle))

  from_process : (p : ℕ) → p < length rows → races_from g rows p ≡ flat_map (later p) (own_edges (edges_of_graph g) p)
  from_process p lt = over_row p (get_or g.edges p []) (get_or rows p []) (races_with_later g rows p) (later p) (are.row p lt) (later_none p) (λ a x. with_later p a lt x)

  pub rows_all : races_by_rows g rows ≡ races_among (edges_of_graph g)
  unfolding later races_at_pair
  rows_all =
      flat_range_same (races_from g rows) (λ p. flat_map (later p) (own_edges (edges_of_graph g) p)) 0 (length rows) (length rows) (omega arith) (λ p le lt. from_process p lt)
      ∙ ap (λ n. flat_map (λ p. flat_map (later p) (own_edges (edges_of_graph g) p)) (range_with_len 0 n)) are.processes
      ∙ sym (filtered (edges_of_graph g))

flat_mapped : {A : Type 0} (f : ℕ → List A) (xs : List ℕ) → flat_map (λ part. part) (map f xs) ≡ flat_map f xs
flat_mapped f [] = refl
flat_mapped f (x ∷ xs) = ap (λ r. f x ++ r) (flat_mapped f xs)

pub found_by_rows : (g : SyncGraph) (rows : List (List Busy)) (races : List Race) → AreBusyRows g.edges rows → (IsRising g → races ≡ races_by_rows g rows) → AreRacesOf g races
found_by_rows g rows races are found program logs is few cells = found is.rising ∙ rows_all g rows are ∙ graph_races program logs g is few cells

pub found_all : (g : SyncGraph) (rows : List (List Busy)) (parts : List (List Race)) (races : List Race) → AreBusyRows g.edges rows → (IsRising g → parts ≡ map (races_from g rows) (range_with_len 0 (length rows)))
    → races ≡ flat_map (λ part. part) parts → AreRacesOf g races
found_all g rows parts races are found joined program logs is few cells =
    joined ∙ ap (flat_map (λ part. part)) (found is.rising) ∙ flat_mapped (races_from g rows) (range_with_len 0 (length rows)) ∙ rows_all g rows are ∙ graph_races program logs g is few cells
