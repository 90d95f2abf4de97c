-- The race list by pairs of a flat list of edges.
use Rattle.std.proofs.Common.{◌≡◌, ℕ, zero, suc, ◌+◌, ◌-◌, ◌<◌, List, [], ◌∷◌, ◌++◌, Bool, true, false, cond, refl, ap, ap₂, sym, ◌∙◌, arith, map, filter, eq-eqb, ne_eqb, ◌&&◌}
use Rattle.std.specs.Prelude.{nat_eq}
use Rattle.std.specs.List.{flat_map, range_with_len}
use Rattle.std.proofs.lemmas.Bool.{and_right, cond-false, cond-true}
use Rattle.std.proofs.lemmas.List.{append_assoc}
use Rattle.ppd_model.specs.declared.graph.EdgeId.{EdgeId}
use Rattle.ppd_model.specs.declared.graph.Race.{Race}
use Rattle.ppd_model.specs.declared.graph.RaceKind.{RaceKind}
use Rattle.ppd_model.specs.declared.graph.RaceKind.TheVariants.{ReadWrite, WriteRead, WriteWrite}
use Rattle.ppd_model.specs.HappenedBefore.{edge}
use Rattle.ppd_model.specs.Races.{Edges, candidates_at, first_writes, is_race, kinds, race, races_among, second_writes}
use Rattle.ppd_model.proofs.OrderWords.{are_apart, own_edges}
use Rattle.ppd_race.proofs.Vocabulary.{edges_from, pairs_among, races_of_pair}

-- ---- lists

pub flat_append : {A B : Type 0} (f : A → List B) (xs ys : List A) → flat_map f (xs ++ ys) ≡ flat_map f xs ++ flat_map f ys
flat_append f [] ys = refl
flat_append f (x ∷ xs) ys = ap (λ r. f x ++ r) (flat_append f xs ys) ∙ sym (append_assoc (f x) (flat_map f xs) (flat_map f ys))

pub flat_of_map : {A B C : Type 0} (f : B → List C) (g : A → B) (xs : List A) → flat_map f (map g xs) ≡ flat_map (λ x. f (g x)) xs
flat_of_map f g [] = refl
flat_of_map f g (x ∷ xs) = ap (λ r. f (g x) ++ r) (flat_of_map f g xs)

pub flat_same : {A B : Type 0} (f g : A → List B) (xs : List A) → ((x : A) → f x ≡ g x) → flat_map f xs ≡ flat_map g xs
flat_same f g [] h = refl
flat_same f g (x ∷ xs) h = ap₂ (λ a b. a ++ b) (h x) (flat_same f g xs h)

pub flat_none : {A B : Type 0} (f : A → List B) (xs : List A) → ((x : A) → f x ≡ []) → flat_map f xs ≡ []
flat_none f [] h = refl
flat_none f (x ∷ xs) h = ap₂ (λ a b. a ++ b) (h x) (flat_none f xs h)

filter_cons : {A : Type 0} (test : A → Bool) (b : Bool) (x : A) (r s : List A) → cond b (x ∷ (r ++ s)) (r ++ s) ≡ cond b (x ∷ r) r ++ s
filter_cons test true x r s = refl
filter_cons test false x r s = refl

filter_append : {A : Type 0} (test : A → Bool) (xs ys : List A) → filter test (xs ++ ys) ≡ filter test xs ++ filter test ys
filter_append test [] ys = refl
filter_append test (x ∷ xs) ys =
    ap (λ r. cond (test x) (x ∷ r) r) (filter_append test xs ys) ∙ filter_cons test (test x) x (filter test xs) (filter test ys)

pub filter_flat : {A B : Type 0} (test : B → Bool) (f : A → List B) (xs : List A) → filter test (flat_map f xs) ≡ flat_map (λ x. filter test (f x)) xs
filter_flat test f [] = refl
filter_flat test f (x ∷ xs) = filter_append test (f x) (flat_map f xs) ∙ ap (λ r. filter test (f x) ++ r) (filter_flat test f xs)

-- ---- pairs

module _ (e : Edges) where
  f : EdgeId → EdgeId → List Race
  f a b = races_of_pair e a b

  one_process : (p i j : ℕ) → races_of_pair e (edge p i) (edge p j) ≡ []
  one_process p i j = cond-true (nat_eq p p) [] (filter (is_race e) (candidates_at e p i p j)) (eq-eqb p p refl)

  two_processes : (p i q j : ℕ) → (p ≡ q → ⊥) → races_of_pair e (edge p i) (edge q j) ≡ filter (is_race e) (candidates_at e p i q j)
  two_processes p i q j d = cond-false (nat_eq p q) [] (filter (is_race e) (candidates_at e p i q j)) (ne_eqb p q d)

  own_none : (p i : ℕ) (js : List ℕ) → flat_map (races_of_pair e (edge p i)) (map (edge p) js) ≡ []
  own_none p i js = flat_of_map (races_of_pair e (edge p i)) (edge p) js ∙ flat_none (λ j. races_of_pair e (edge p i) (edge p j)) js (one_process p i)

  -- the pairs of a process's edges with the later ones
  pairs_process : (p : ℕ) (is : List ℕ) (later : List EdgeId) → pairs_among (races_of_pair e) (map (edge p) is ++ later) ≡ flat_map (λ i. flat_map (races_of_pair e (edge p i)) later) is ++ pairs_among (races_of_pair e) later
  pairs_process p [] later = refl
  pairs_process p (i ∷ is) later =
      ap₂ (λ a b. a ++ b)
      (flat_append (races_of_pair e (edge p i)) (map (edge p) is) later ∙ ap (λ r. r ++ flat_map (races_of_pair e (edge p i)) later) (own_none p i is))
      (pairs_process p is later)
      ∙ sym (append_assoc (flat_map (races_of_pair e (edge p i)) later) (flat_map (λ k. flat_map (races_of_pair e (edge p k)) later) is) (pairs_among (races_of_pair e) later))

  -- the races of edge i of process p with the edges of the processes from q on
  with_later : (p i q n : ℕ) → p < q → flat_map (λ r. flat_map (λ j. filter (is_race e) (candidates_at e p i r j)) (own_edges e r)) (range_with_len q n) ≡ flat_map (races_of_pair e (edge p i)) (edges_from e q n)
  with_later p i q zero lt = refl
  with_later p i q (suc n) lt =
      ap₂ (λ a b. a ++ b)
      (flat_same (λ j. filter (is_race e) (candidates_at e p i q j)) (λ j. races_of_pair e (edge p i) (edge q j)) (own_edges e q) (λ j. sym (two_processes p i q j (λ e. absurd (omega (arith, lt, e)))))
      ∙ sym (flat_of_map (races_of_pair e (edge p i)) (edge q) (own_edges e q)))
      (with_later p i (q + 1) n (omega (arith, lt)))
      ∙ sym (flat_append (races_of_pair e (edge p i)) (map (edge q) (own_edges e q)) (edges_from e (q + 1) n))

  by_process : (p n : ℕ) → p + n ≡ e.processes →
      flat_map (λ q. flat_map (λ i. flat_map (λ r. flat_map (λ j. filter (is_race e) (candidates_at e q i r j)) (own_edges e r)) (range_with_len (q + 1) (e.processes - (q + 1)))) (own_edges e q)) (range_with_len p n)
      ≡ pairs_among (races_of_pair e) (edges_from e p n)
  by_process p zero h = refl
  by_process p (suc n) h =
      let left : e.processes - (p + 1) ≡ n = omega (arith, h) in
      ap₂ (λ a b. a ++ b)
      (flat_same (λ i. flat_map (λ r. flat_map (λ j. filter (is_race e) (candidates_at e p i r j)) (own_edges e r)) (range_with_len (p + 1) (e.processes - (p + 1)))) (λ i. flat_map (races_of_pair e (edge p i)) (edges_from e (p + 1) n)) (own_edges e p)
      (λ i. ap (λ k. flat_map (λ r. flat_map (λ j. filter (is_race e) (candidates_at e p i r j)) (own_edges e r)) (range_with_len (p + 1) k)) left ∙ with_later p i (p + 1) n (omega arith)))
      (by_process (p + 1) n (omega (arith, h)))
      ∙ sym (pairs_process p (own_edges e p) (edges_from e (p + 1) n))

  pub filtered : races_among e ≡ flat_map (λ q. flat_map (λ i. flat_map (λ r. flat_map (λ j. filter (is_race e) (candidates_at e q i r j)) (own_edges e r)) (range_with_len (q + 1) (e.processes - (q + 1)))) (own_edges e q)) (range_with_len 0 e.processes)
  filtered =
      let test = is_race e in
      filter_flat test (λ p. flat_map (λ i. flat_map (λ q. flat_map (λ j. candidates_at e p i q j) (own_edges e q)) (range_with_len (p + 1) (e.processes - (p + 1)))) (own_edges e p)) (range_with_len 0 e.processes)
      ∙ flat_same _ _ (range_with_len 0 e.processes) (λ p.
      filter_flat test (λ i. flat_map (λ q. flat_map (λ j. candidates_at e p i q j) (own_edges e q)) (range_with_len (p + 1) (e.processes - (p + 1)))) (own_edges e p)
      ∙ flat_same _ _ (own_edges e p) (λ i.
      filter_flat test (λ q. flat_map (λ j. candidates_at e p i q j) (own_edges e q)) (range_with_len (p + 1) (e.processes - (p + 1)))
      ∙ flat_same _ _ (range_with_len (p + 1) (e.processes - (p + 1))) (λ q. filter_flat test (λ j. candidates_at e p i q j) (own_edges e q))))

  -- the race list is that of the pairs of all edges
  pub races_by_pairs : races_among e ≡ pairs_among (races_of_pair e) (edges_from e 0 e.processes)
  races_by_pairs = filtered ∙ by_process 0 e.processes (omega arith)

-- ---- one pair

module _ (e : Edges) (p i q j : ℕ) where
  none_of_kinds : (cell : ℕ) → are_apart e (edge p i) (edge q j) ≡ false → filter (is_race e) (map (race p i q j cell) kinds) ≡ []
  none_of_kinds cell h =
      let no : (k : RaceKind) → is_race e (race p i q j cell k) ≡ false = λ k. and_right (e.accesses (edge p i) cell (first_writes k) && e.accesses (edge q j) cell (second_writes k)) (are_apart e (edge p i) (edge q j)) h in
      ap (λ b. cond b (race p i q j cell ReadWrite ∷ filter (is_race e) (map (race p i q j cell) (WriteRead ∷ WriteWrite ∷ []))) (filter (is_race e) (map (race p i q j cell) (WriteRead ∷ WriteWrite ∷ [])))) (no ReadWrite)
      ∙ ap (λ b. cond b (race p i q j cell WriteRead ∷ filter (is_race e) (map (race p i q j cell) (WriteWrite ∷ []))) (filter (is_race e) (map (race p i q j cell) (WriteWrite ∷ [])))) (no WriteRead)
      ∙ ap (λ b. cond b (race p i q j cell WriteWrite ∷ []) []) (no WriteWrite)

  -- ordered edges have no race
  pub none_if_ordered : are_apart e (edge p i) (edge q j) ≡ false → filter (is_race e) (candidates_at e p i q j) ≡ []
  none_if_ordered h =
      filter_flat (is_race e) (λ cell. map (race p i q j cell) kinds) (range_with_len 0 e.cells)
      ∙ flat_none (λ cell. filter (is_race e) (map (race p i q j cell) kinds)) (range_with_len 0 e.cells) (λ cell. none_of_kinds cell h)
