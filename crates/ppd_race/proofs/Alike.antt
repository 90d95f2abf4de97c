-- Edges that are alike have the same races; so have a graph and its logs.
use Rattle.std.proofs.Common.{◌≡◌, ℕ, zero, suc, ◌+◌, ◌-◌, ◌<◌, ◌≤◌, List, [], ◌∷◌, ◌++◌, false, not, refl, ap, ap₂, sym, subst, ◌∙◌, arith, length, map, filter, get_or, ◌&&◌, ◌||◌}
use Rattle.std.specs.Prelude.{nat_eq, if◌then◌else◌, ⊤}
use Rattle.std.specs.List.{AllByRecursion as Each, flat_map, range_with_len}
use Rattle.std.proofs.lemmas.Bool.{and_left}
use Rattle.ppd_ast.specs.Members.{has}
use Rattle.ppd_ast.proofs.Those.{both}
use Rattle.ppd_model.specs.declared.graph.EdgeId.{EdgeId}
use Rattle.ppd_model.specs.declared.graph.Race.{Race}
use Rattle.ppd_model.specs.declared.graph.RaceKind.{RaceKind}
use Rattle.ppd_model.specs.declared.graph.RaceKind.TheVariants.{ReadWrite, WriteRead, WriteWrite}
use Rattle.ppd_model.specs.HappenedBefore.{edge, is_edge_before}
use Rattle.ppd_model.specs.Races.{Edges, first_writes, is_race, kinds, race, races_among, second_writes}
use Rattle.ppd_model.proofs.OrderWords.{are_apart, own_edges}
use Rattle.ppd_model.proofs.Tested.{tests_edges}
use Rattle.ppd_race_found.specs.Graphs.{is_before_by, sets_at}
use Rattle.ppd_model.specs.RecordedSets.{record_in}
use Rattle.ppd_model.proofs.Earlier.{each_append}
use Rattle.ppd_race_found.specs.LogRecord.{sets_from}
use Rattle.ppd_race_found.proofs.Leads.{length_mapped}
use Rattle.ppd_race.specs.Races.{GraphRacesAreOfLogs, IsThere, cells_by, edges_of_graph, edges_of_logs}
use Rattle.ppd_race.proofs.Vocabulary.{AlikeRace, AreAlike, edges_from, pairs_among, races_of_pair}
use Rattle.ppd_race.proofs.ByPairs.{filter_flat, flat_same, races_by_pairs}
use Rattle.ppd_race.proofs.Cells.{three}

-- ---- each of a list

flat_each : {A B : Type 0} (P : A → Type 0) (f g : A → List B) (xs : List A) → Each P xs → ((x : A) → P x → f x ≡ g x) → flat_map f xs ≡ flat_map g xs
flat_each P f g [] h e = refl
flat_each P f g (x ∷ xs) h e = ap₂ (λ r s. r ++ s) (e x h.0) (flat_each P f g xs h.1 e)

pairs_each : {A B : Type 0} (P : A → Type 0) (f g : A → A → List B) (xs : List A) → Each P xs → ((a b : A) → P a → P b → f a b ≡ g a b) → pairs_among f xs ≡ pairs_among g xs
pairs_each P f g [] h e = refl
pairs_each P f g (x ∷ xs) h e = ap₂ (λ r s. r ++ s) (flat_each P (f x) (g x) xs h.1 (λ b k. e x b h.0 k)) (pairs_each P f g xs h.1 e)

range_both : {B : Type 0} (f : ℕ → List B) (a m n : ℕ) → flat_map f (range_with_len a (m + n)) ≡ flat_map f (range_with_len a m) ++ flat_map f (range_with_len (a + m) n)
range_both f a zero n =
    let z : zero + n ≡ n = omega arith in
    let y : a ≡ a + zero = omega arith in
    ap (λ k. flat_map f (range_with_len a k)) z ∙ ap (λ k. flat_map f (range_with_len k n)) y
range_both f a (suc m) n =
    let z : suc m + n ≡ suc (m + n) = omega arith in
    let y : (a + 1) + m ≡ a + suc m = omega arith in
    ap (λ k. flat_map f (range_with_len a k)) z ∙ ap (λ r. f a ++ r) (range_both f (a + 1) m n ∙ ap (λ k. flat_map f (range_with_len (a + 1) m) ++ flat_map f (range_with_len k n)) y)
    ∙ sym (after (f a) (flat_map f (range_with_len (a + 1) m)) (flat_map f (range_with_len (a + suc m) n)))
  where
    after : {A : Type 0} (xs ys zs : List A) → (xs ++ ys) ++ zs ≡ xs ++ (ys ++ zs)
    after [] ys zs = refl
    after (x ∷ xs) ys zs = ap (λ r. x ∷ r) (after xs ys zs)

range_same : {B : Type 0} (f g : ℕ → List B) (a n m : ℕ) → a + n ≤ m → ((q : ℕ) → q < m → f q ≡ g q) → flat_map f (range_with_len a n) ≡ flat_map g (range_with_len a n)
range_same f g a zero m e h = refl
range_same f g a (suc n) m e h = ap₂ (λ r s. r ++ s) (h a (omega (arith, e))) (range_same f g (a + 1) n m (omega (arith, e)) h)

none_from : {B : Type 0} (f : ℕ → List B) (a n low : ℕ) → low ≤ a → ((c : ℕ) → low ≤ c → f c ≡ []) → flat_map f (range_with_len a n) ≡ []
none_from f a zero low h e = refl
none_from f a (suc n) low h e = ap₂ (λ r s. r ++ s) (e a h) (none_from f (a + 1) n low (omega (arith, h)) e)

append_none : {A : Type 0} (xs : List A) → xs ++ [] ≡ xs
append_none [] = refl
append_none (x ∷ xs) = ap (λ ys. x ∷ ys) (append_none xs)

fewer_cells : {B : Type 0} (f : ℕ → List B) (m n : ℕ) → m ≤ n → ((c : ℕ) → m ≤ c → f c ≡ []) → flat_map f (range_with_len 0 n) ≡ flat_map f (range_with_len 0 m)
fewer_cells f m n le e =
    let sum : n ≡ m + (n - m) = omega (arith, le) in
    ap (λ k. flat_map f (range_with_len 0 k)) sum ∙ range_both f 0 m (n - m)
    ∙ ap (λ r. flat_map f (range_with_len 0 m) ++ r) (none_from f (0 + m) (n - m) m (omega arith) e) ∙ append_none (flat_map f (range_with_len 0 m))

module _ (e f : Edges) (alike : AreAlike e f) where
  -- ---- the edges

  own_there : (p a n : ℕ) → p < e.processes → a + n ≤ e.count p → Each (IsThere e) (map (edge p) (range_with_len a n))
  own_there p a zero lt le = tt
  own_there p a (suc n) lt le = ((lt, omega (arith, le)), own_there p (a + 1) n lt (omega (arith, le)))

  there_from : (p n : ℕ) → p + n ≤ e.processes → Each (IsThere e) (edges_from e p n)
  there_from p zero le = tt
  there_from p (suc n) le = each_append (IsThere e) (map (edge p) (own_edges e p)) (edges_from e (p + 1) n) (own_there p 0 (e.count p) (omega (arith, le)) (omega arith)) (there_from (p + 1) n (omega (arith, le)))

  -- ---- one pair

  race_alike : (a b : EdgeId) (c : ℕ) (k : RaceKind) → IsThere e a → IsThere e b → is_race e (race a.process a.edge b.process b.edge c k) ≡ is_race f (race a.process a.edge b.process b.edge c k)
  race_alike a b c k x y =
      ap₂ (λ s t. s && t) (ap₂ (λ s t. s && t) (alike.accesses a c (first_writes k) x) (alike.accesses b c (second_writes k) y))
      (ap₂ (λ s t. not (s || t)) (alike.before a b x y) (alike.before b a y x))

  cell_alike : (a b : EdgeId) (c : ℕ) → IsThere e a → IsThere e b → filter (is_race e) (map (race a.process a.edge b.process b.edge c) kinds) ≡ filter (is_race f) (map (race a.process a.edge b.process b.edge c) kinds)
  cell_alike a b c x y =
      let r : RaceKind → Race = λ k. race a.process a.edge b.process b.edge c k in
      three (is_race e (r ReadWrite)) (is_race e (r WriteRead)) (is_race e (r WriteWrite)) (r ReadWrite) (r WriteRead) (r WriteWrite)
      ∙ ap₂ (λ s t. s ++ t) (ap (λ k. if k then r ReadWrite ∷ [] else []) (race_alike a b c ReadWrite x y))
      (ap₂ (λ s t. s ++ t) (ap (λ k. if k then r WriteRead ∷ [] else []) (race_alike a b c WriteRead x y)) (ap (λ k. if k then r WriteWrite ∷ [] else []) (race_alike a b c WriteWrite x y)))
      ∙ sym (three (is_race f (r ReadWrite)) (is_race f (r WriteRead)) (is_race f (r WriteWrite)) (r ReadWrite) (r WriteRead) (r WriteWrite))

  cell_none : (a b : EdgeId) → IsThere e a → (c : ℕ) → f.cells ≤ c → filter (is_race e) (map (race a.process a.edge b.process b.edge c) kinds) ≡ []
  cell_none a b x c le =
      let r : RaceKind → Race = λ k. race a.process a.edge b.process b.edge c k in
      let none : (k : RaceKind) → is_race e (r k) ≡ false = λ k.
      and_left (e.accesses a c (first_writes k) && e.accesses b c (second_writes k)) (are_apart e a b) (and_left (e.accesses a c (first_writes k)) (e.accesses b c (second_writes k)) (alike.none a c (first_writes k) le x)) in
      three (is_race e (r ReadWrite)) (is_race e (r WriteRead)) (is_race e (r WriteWrite)) (r ReadWrite) (r WriteRead) (r WriteWrite)
      ∙ ap₂ (λ s t. s ++ t) (ap (λ k. if k then r ReadWrite ∷ [] else []) (none ReadWrite))
      (ap₂ (λ s t. s ++ t) (ap (λ k. if k then r WriteRead ∷ [] else []) (none WriteRead)) (ap (λ k. if k then r WriteWrite ∷ [] else []) (none WriteWrite)))

  pair_alike : (a b : EdgeId) → IsThere e a → IsThere e b → races_of_pair e a b ≡ races_of_pair f a b
  pair_alike a b x y = ap (λ r. if nat_eq a.process b.process then [] else r)
      (filter_flat (is_race e) (λ c. map (race a.process a.edge b.process b.edge c) kinds) (range_with_len 0 e.cells)
      ∙ fewer_cells (λ c. filter (is_race e) (map (race a.process a.edge b.process b.edge c) kinds)) f.cells e.cells alike.cells (cell_none a b x)
      ∙ flat_same (λ c. filter (is_race e) (map (race a.process a.edge b.process b.edge c) kinds)) (λ c. filter (is_race f) (map (race a.process a.edge b.process b.edge c) kinds)) (range_with_len 0 f.cells) (λ c. cell_alike a b c x y)
      ∙ sym (filter_flat (is_race f) (λ c. map (race a.process a.edge b.process b.edge c) kinds) (range_with_len 0 f.cells)))

  alike_races : races_among e ≡ races_among f
  alike_races =
      races_by_pairs e
      ∙ pairs_each (IsThere e) (races_of_pair e) (races_of_pair f) (edges_from e 0 e.processes) (there_from 0 e.processes (omega arith)) pair_alike
      ∙ ap (pairs_among (races_of_pair f)) (range_same (λ q. map (edge q) (own_edges e q)) (λ q. map (edge q) (own_edges f q)) 0 e.processes e.processes (omega arith) (λ q lt. ap (λ n. map (edge q) (range_with_len 0 n)) (alike.count q lt))
      ∙ ap (edges_from f 0) alike.processes)
      ∙ sym (races_by_pairs f)

pub alike_race : AlikeRace
alike_race e f alike = alike_races e f alike

-- ---- a graph and its logs

pub graph_races : GraphRacesAreOfLogs
graph_races program logs g is few cells = alike_race (edges_of_graph g) (edges_of_logs program logs) (record {
  processes = ap length is.sets ∙ length_mapped (sets_from _) logs.lists;
  count = λ p lt. ap (λ sets. length (get_or sets p [])) is.sets;
  accesses = λ a c w x. ap (λ sets. has (cells_by w (sets_at sets a)) c) is.sets;
  before = λ a b x y. both (is_before_by g a b) (is_edge_before program (record_in logs) a b)
      (λ h. (tests_edges program (record_in logs) a b).1 ((is.order a b x.1 y.1).0 h))
      (λ h. (is.order a b x.1 y.1).1 ((tests_edges program (record_in logs) a b).0 h));
  cells = few;
  none = λ a c w le x.
      ap (λ sets. has (cells_by w (sets_at sets a)) c) is.sets
      ∙ cells a c w le (subst (λ n. a.process < n) (ap length is.sets ∙ length_mapped (sets_from _) logs.lists) x.0, subst (λ sets. a.edge < length (get_or sets a.process [])) is.sets x.1);
})
