-- What the proofs speak of: the races by pairs of edges, and edges that are alike.
use Rattle.std.specs.Prelude.{◌≡◌, ℕ, ◌<◌, ◌≤◌, nat_eq, Bool, false, List, [], ◌∷◌, ◌++◌, map, filter, if◌then◌else◌}
use Rattle.std.specs.List.{flat_map, range_with_len}
use Rattle.ppd_model.specs.declared.graph.EdgeId.{EdgeId}
use Rattle.ppd_model.specs.declared.graph.Race.{Race}
use Rattle.ppd_model.specs.HappenedBefore.{edge}
use Rattle.ppd_model.specs.Races.{Edges, candidates_at, is_race, races_among}
use Rattle.ppd_model.proofs.OrderWords.{own_edges}
use Rattle.ppd_race.specs.Races.{IsThere}

-- ---- pairs

-- the races of an edge with those after it in a list, and so on
abbrev pub pairs_among : {A B : Type 0} → (A → A → List B) → List A → List B
pairs_among f [] = []
pairs_among f (x ∷ xs) = flat_map (f x) xs ++ pairs_among f xs

-- the edges of processes from p on, so many processes
abbrev pub edges_from : Edges → ℕ → ℕ → List EdgeId
edges_from e p n = flat_map (λ q. map (edge q) (own_edges e q)) (range_with_len p n)

-- the races of two edges, none where they are of one process
abbrev pub races_of_pair : Edges → EdgeId → EdgeId → List Race
races_of_pair e a b =
    if nat_eq a.process b.process then [] else filter (is_race e) (candidates_at e a.process a.edge b.process b.edge)

-- ---- one list for two

-- the same edges with the same accesses and the same order, of which the second may leave out cells that none accesses
pub record AreAlike (e f : Edges) : Type 0 where
  pub processes : e.processes ≡ f.processes
  pub count : (p : ℕ) → p < e.processes → e.count p ≡ f.count p
  pub accesses : (a : EdgeId) (c : ℕ) (w : Bool) → IsThere e a → e.accesses a c w ≡ f.accesses a c w
  pub before : (a b : EdgeId) → IsThere e a → IsThere e b → e.before a b ≡ f.before a b
  pub cells : f.cells ≤ e.cells
  pub none : (a : EdgeId) (c : ℕ) (w : Bool) → f.cells ≤ c → IsThere e a → e.accesses a c w ≡ false

-- they have the same races
abbrev pub AlikeRace : Type 0
AlikeRace = (e f : Edges) → AreAlike e f → races_among e ≡ races_among f
