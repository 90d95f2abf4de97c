-- The greatest edge before another one, process by process.
use Rattle.std.proofs.Common.{◌≡◌, ℕ, ◌+◌, ◌<◌, ◌≤◌, Bool, List, [], Option, Some, None, ap, ap₂, sym, subst, ◌∙◌, drop, get_or, length}
use Rattle.std.specs.Prelude.{IfSome, if◌then◌else◌}
use Rattle.std.specs.List.Sorted.{IsNonDecreasing}
use Rattle.std.proofs.lemmas.List.{drop_all, drop_more}
use Rattle.ppd_graph.specs.Shared.{greater, greatest_before, is_before_in}
use Rattle.ppd_flow_past.specs.declared.past.Past.{Past}
use Rattle.ppd_flow_past.specs.Pasts.{IsPast}
use Rattle.ppd_flow_past.proofs.Edges.Before.{before_is}
use Rattle.ppd_graph.specs.declared.sets.EdgeSets.{EdgeSets}
use Rattle.ppd_graph.specs.declared.sync_graph.SyncGraph.{SyncGraph}
use Rattle.ppd_graph.specs.Graphs.{IsEdge, is_before_by}
use Rattle.ppd_model.specs.declared.graph.EdgeId.{EdgeId}
use Rattle.ppd_flow_tables.specs.LatestEdges.{last_below, latest_from, latest_in, later_if, limit_of, numbers_in}
use Rattle.ppd_flow_tables.proofs.LatestEdges.{latest_is}
use Rattle.ppd_flow_tables.specs.Writing.{AreWritingEdges}
use Rattle.ppd_flow_tables.specs.declared.by_cell.WritingEdges.{WritingEdges}
use Rattle.ppd_flow_tables.proofs.Listed.{last_listed, last_there, listed_rise}

-- ---- one process

module _ (sets : List (List EdgeSets)) (t : WritingEdges) (are : AreWritingEdges sets t) (q c : ℕ) where
  pub edges_rise : (edges : List ℕ) → edges ≡ get_or (get_or t.rows q []) c [] → IsNonDecreasing edges
  edges_rise edges e = subst IsNonDecreasing (sym (e ∙ are.lists q c)) (listed_rise c (get_or sets q []))

  pub last_is : (edges : List ℕ) (limit limit' : ℕ) (o : Option ℕ) → edges ≡ get_or (get_or t.rows q []) c [] → limit ≡ limit' → o ≡ last_below limit edges
      → o ≡ last_below limit' (numbers_in c 0 (get_or sets q []))
  last_is edges limit limit' o e f is =
      is ∙ ap₂ (λ (n : ℕ) (l : List ℕ). last_below n l) f (e ∙ are.lists q c) ∙ last_listed c limit' (get_or sets q [])

last_within : (c limit : ℕ) (ss : List EdgeSets) (o : Option ℕ) → o ≡ last_below limit (numbers_in c 0 ss) → IfSome o (λ n. n < length ss)
last_within c limit ss None e = tt
last_within c limit ss (Some n) e = last_there c limit ss n (sym e)

pub found_within : (sets : List (List EdgeSets)) (t : WritingEdges) → AreWritingEdges sets t → (q c limit limit' : ℕ) (edges : List ℕ) (o : Option ℕ)
    → edges ≡ get_or (get_or t.rows q []) c [] → limit ≡ limit' → o ≡ last_below limit edges → IfSome o (λ n. n < length (get_or sets q []))
found_within sets t are q c limit limit' edges o e f is = last_within c limit' (get_or sets q []) o (last_is sets t are q c edges limit limit' o e f is)

-- ---- of two edges

pub greater_is : (past : Past) → IsPast past → (best a : EdgeId) → IsEdge past.graph.now best → IsEdge past.graph.now a → (t : Bool) → t ≡ is_before_by past.graph.now best a
    → (if t then Some a else Some best) ≡ greater (is_before_in past.program.now past.logs.now) (Some best) a
greater_is past is best a x y t e = ap (λ (b : Bool). if b then Some a else Some best) (e ∙ before_is past.program.now past.logs.now past.graph.now is.graph_is best a x y)

-- ---- all processes

module _ (past : Past) (e : EdgeId) (c : ℕ) where
  abbrev g : SyncGraph
  g = past.graph.now

  -- what is found after the processes from number q on
  abbrev pub found_from : ℕ → Option EdgeId → List (List EdgeSets) → Option EdgeId
  found_from q best rest = latest_from (is_before_in past.program.now past.logs.now) (limit_of past.graph.now e) c q best rest

  pub found_more : (q : ℕ) (best best' : Option EdgeId) (last : Option ℕ) → q < length g.edges
      → best' ≡ later_if (is_before_in past.program.now past.logs.now) q best last → last ≡ last_below (limit_of g e q) (numbers_in c 0 (get_or g.edges q []))
      → found_from q best (drop q g.edges) ≡ latest_in past e c → found_from (q + 1) best' (drop (q + 1) g.edges) ≡ latest_in past e c
  found_more q best best' last lt is found h =
      ap (λ (o : Option EdgeId). found_from (q + 1) o (drop (q + 1) g.edges)) (is ∙ ap (λ (o : Option ℕ). later_if (is_before_in past.program.now past.logs.now) q best o) found)
      ∙ ap (found_from q best) (sym (drop_more g.edges q [] lt)) ∙ h

  pub found_all : IsPast past → (q : ℕ) (best : Option EdgeId) → length g.edges ≤ q → found_from q best (drop q g.edges) ≡ latest_in past e c
      → best ≡ greatest_before past.program.now past.logs.now e c
  found_all is q best le h = ap (found_from q best) (sym (drop_all q g.edges le)) ∙ h ∙ latest_is past e c is
