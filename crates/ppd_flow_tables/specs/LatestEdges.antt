-- The greatest edge before another one that writes a cell, by the last such edge of each process.
use Rattle.std.specs.Prelude.{◌≡◌, ℕ, ◌+◌, nat_eq, nat_lt, Bool, List, [], ◌∷◌, filter, Option, Some, None, if◌then◌else◌}
use Rattle.ppd_ast.specs.Members.{has}
use Rattle.ppd_graph.specs.declared.sets.EdgeSets.{EdgeSets}
use Rattle.ppd_graph.specs.declared.sync_graph.SyncGraph.{SyncGraph}
use Rattle.ppd_graph.specs.Graphs.{count_at, edge_count}
use Rattle.ppd_model.specs.declared.graph.EdgeId.{EdgeId}
use Rattle.ppd_model.specs.HappenedBefore.{edge}
use Rattle.ppd_flow_past.specs.declared.past.Past.{Past}
use Rattle.ppd_flow_past.specs.Pasts.{IsPast}
use Rattle.ppd_graph.specs.Shared.{greater, greatest_before, is_before_in}

-- the numbers of the edges that write the cell, of those numbered from i on
abbrev pub numbers_in : ℕ → ℕ → List EdgeSets → List ℕ
numbers_in c i [] = []
numbers_in c i (s ∷ ss) = if has s.writes c then i ∷ numbers_in c (i + 1) ss else numbers_in c (i + 1) ss

abbrev pub last_or : Option ℕ → List ℕ → Option ℕ
last_or o [] = o
last_or o (n ∷ ns) = last_or (Some n) ns

-- the last number below this limit
abbrev pub last_below : ℕ → List ℕ → Option ℕ
last_below limit ns = last_or None (filter (λ n. nat_lt n limit) ns)

-- the greater of the best so far and the last edge of process q, if there is one
abbrev pub later_if : (EdgeId → EdgeId → Bool) → ℕ → Option EdgeId → Option ℕ → Option EdgeId
later_if before q best None = best
later_if before q best (Some n) = greater before best (edge q n)

-- over the processes from number q on
abbrev pub latest_from : (EdgeId → EdgeId → Bool) → (ℕ → ℕ) → ℕ → ℕ → Option EdgeId
    → List (List EdgeSets) → Option EdgeId
latest_from before limit c q best [] = best
latest_from before limit c q best (ss ∷ rest) =
    latest_from before limit c (q + 1) (later_if before q best (last_below (limit q) (numbers_in c 0 ss))) rest

-- how many edges of process q are before edge e; of another process none are before an edge that is not there
abbrev pub limit_of : SyncGraph → EdgeId → ℕ → ℕ
limit_of g e q =
    if nat_eq q e.process then e.edge
    else if nat_lt e.edge (edge_count g e.process) then count_at g.times e.process e.edge q else 0

-- the greatest edge before e that writes the cell
abbrev pub latest_in : Past → EdgeId → ℕ → Option EdgeId
latest_in past e c =
    latest_from (is_before_in past.program.now past.logs.now) (limit_of past.graph.now e) c 0 None past.graph.now.edges

abbrev pub LatestIsGreatest : Type 0
LatestIsGreatest =
    (past : Past) (e : EdgeId) (c : ℕ) → IsPast past
    → latest_in past e c ≡ greatest_before past.program.now past.logs.now e c
