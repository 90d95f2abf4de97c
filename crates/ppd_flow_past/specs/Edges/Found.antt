-- What is found of internal edges in the index and the graph of a past.
use Rattle.std.specs.Prelude.{ℕ, ◌+◌, Bool, true, false, ◌&&◌, List, [], ◌∷◌, Option, Some, None, if◌then◌else◌, ⊤, nat_lt, nat_le, unwrap_or}
use Rattle.ppd_ast.specs.Members.{has}
use Rattle.ppd_graph.specs.declared.sets.EdgeSets.{EdgeSets}
use Rattle.ppd_graph.specs.declared.sync_graph.SyncGraph.{SyncGraph}
use Rattle.ppd_graph.specs.Graphs.{IsEdge}
use Rattle.ppd_model.specs.declared.graph.EdgeId.{EdgeId}
use Rattle.ppd_model.specs.Extents.{Extent}
use Rattle.ppd_graph.specs.Shared.{greater}

-- entry n stands in the interval, which is there
abbrev pub stands_there : ℕ → Option Extent → Bool
stands_there n None = false
stands_there n (Some x) = nat_lt x.prelog n && nat_le n (unwrap_or x.last 0)

-- the edge is one of the graph, if there is one
abbrev pub IsEdgeIf : SyncGraph → Option EdgeId → Type 0
IsEdgeIf g None = ⊤
IsEdgeIf g (Some a) = IsEdge g a

-- the edge is before this one, where there is such a limit
abbrev pub is_within : (EdgeId → EdgeId → Bool) → Option EdgeId → EdgeId → Bool
is_within before None a = true
is_within before (Some e) a = before a e

-- the greatest so far after this edge: one that writes the cell and is within the limit counts
abbrev pub greater_if : (EdgeId → EdgeId → Bool) → ℕ → Option EdgeId → Option EdgeId → EdgeId → List ℕ → Option EdgeId
greater_if before c limit best a writes = if has writes c && is_within before limit a then greater before best a else
    best

-- after the edges of process p, numbered from i on
abbrev pub greatest_in : (EdgeId → EdgeId → Bool) → ℕ → Option EdgeId → ℕ → ℕ → Option EdgeId → List EdgeSets
    → Option EdgeId
greatest_in before c limit p i best [] = best
greatest_in before c limit p i best (s ∷ ss) =
    greatest_in before c limit p (i + 1) (greater_if before c limit best
    (record { process = p; edge = i }) s.writes) ss

-- after those of the processes from number p on
abbrev pub greatest_from : (EdgeId → EdgeId → Bool) → ℕ → Option EdgeId → ℕ → Option EdgeId → List (List EdgeSets)
    → Option EdgeId
greatest_from before c limit p best [] = best
greatest_from before c limit p best (ss ∷ rest) =
    greatest_from before c limit (p + 1) (greatest_in before c limit p 0 best ss) rest
