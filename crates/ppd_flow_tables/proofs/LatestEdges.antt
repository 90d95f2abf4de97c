-- Over all processes of a past.
use Rattle.std.proofs.Common.{◌≡◌, ℕ, zero, suc, ◌+◌, ◌<◌, ◌≤◌, Bool, true, false, List, [], ◌∷◌, Option, Some, None, refl, ap, sym, subst, ◌∙◌, arith, length, get_or, inl, inr, ◌⊎◌}
use Rattle.std.specs.Prelude.{drop, nat_eq, nat_lt, ◌&&◌, if◌then◌else◌}
use Rattle.std.specs.Cmp.{nat_eq_equiv}
use Rattle.std.proofs.lemmas.Bool.{lt-ltb, ltb-true}
use Rattle.std.proofs.lemmas.Option.{none-some}
use Rattle.ppd_graph.specs.declared.sets.EdgeSets.{EdgeSets}
use Rattle.ppd_graph.specs.declared.sync_graph.SyncGraph.{SyncGraph}
use Rattle.ppd_graph.specs.Graphs.{IsEdge, IsGraphOf, before_by, count_at, edge_count, is_before_by}
use Rattle.ppd_graph.specs.LogRecord.{edge_sets_in}
use Rattle.ppd_model.specs.declared.graph.EdgeId.{EdgeId}
use Rattle.ppd_model.specs.HappenedBefore.{edge}
use Rattle.ppd_flow_past.specs.declared.past.Past.{Past}
use Rattle.ppd_flow_past.specs.Pasts.{IsPast}
use Rattle.ppd_graph.specs.Shared.{is_before_in}
use Rattle.ppd_flow_past.specs.Edges.Found.{greatest_from, greatest_in}
use Rattle.ppd_flow_past.proofs.Edges.Before.{before_is, before_none}
use Rattle.ppd_flow_past.proofs.Edges.WritingEdges.{of_those}
use Rattle.ppd_flow_tables.specs.LatestEdges.{LatestIsGreatest, last_below, latest_from, latest_in, later_if, limit_of, numbers_in}
use Rattle.ppd_flow_tables.proofs.LatestBelow.{later_there, one_process}

below_if : (b : Bool) (i x y : ℕ) → (if b then nat_lt i x else nat_lt i y) ≡ nat_lt i (if b then x else y)
below_if true i x y = refl
below_if false i x y = refl

never_below : (i : ℕ) → nat_lt i 0 ≡ false
never_below i = by (nat_lt i 0) refl
  where
    by : (b : Bool) → nat_lt i 0 ≡ b → b ≡ false
    by true e = let lt : i < 0 = ltb-true i 0 e in absurd (omega (arith, lt))
    by false e = refl

row_there : (rows : List (List EdgeSets)) (q j : ℕ) → j < length (get_or rows q []) → q < length rows
row_there [] q j lt = absurd (omega (arith, lt))
row_there (r ∷ rows) zero j lt = omega arith
row_there (r ∷ rows) (suc q) j lt = let rest = row_there rows q j lt in omega (arith, rest)

module _ (past : Past) (is : IsPast past) (e : EdgeId) (c : ℕ) where
  abbrev g : SyncGraph
  g = past.graph.now

  abbrev before : EdgeId → EdgeId → Bool
  before = is_before_in past.program.now past.logs.now

  by_times : (a b : EdgeId) → IsEdge g a → IsEdge g b → before a b ≡ is_before_by g a b
  by_times a b x y = sym (before_is past.program.now past.logs.now g is.graph_is a b x y)

  within : (q i : ℕ) → i < edge_count g q → before (edge q i) e ≡ nat_lt i (limit_of g e q)
  within q i lt = by (nat_lt e.edge (edge_count g e.process)) refl
    where
      none : (b : Bool) → (b && nat_lt i e.edge) ≡ nat_lt i (if b then e.edge else 0)
      none true = refl
      none false = sym (never_below i)

      by : (b : Bool) → nat_lt e.edge (edge_count g e.process) ≡ b → before (edge q i) e ≡ nat_lt i (limit_of g e q)
      by true h =
          by_times (edge q i) e lt (ltb-true e.edge (edge_count g e.process) h)
          ∙ below_if (nat_eq q e.process) i e.edge (count_at g.times e.process e.edge q)
          ∙ sym (ap (λ b. nat_lt i (if nat_eq q e.process then e.edge else if b then count_at g.times e.process e.edge q else 0)) h)
      by false h =
          sym (before_none past.program.now past.logs.now g is.graph_is (edge q i) e (far e.edge (edge_count g e.process) h))
          ∙ none (nat_eq q e.process)
          ∙ sym (ap (λ b. nat_lt i (if nat_eq q e.process then e.edge else if b then count_at g.times e.process e.edge q else 0)) h)
        where
          far : (m n : ℕ) → nat_lt m n ≡ false → n ≤ m
          far m n f = search (arith)

  orders : (q i n : ℕ) → i < edge_count g q → n < edge_count g q → before (edge q i) (edge q n) ≡ nat_lt i n
  orders q i n lt less =
      by_times (edge q i) (edge q n) lt less
      ∙ ap (λ b. if b then nat_lt i n else nat_lt i (count_at g.times q n q)) (nat_eq_equiv.refl q)

  -- what is before an edge of a process is before its later ones
  goes : (a : EdgeId) → IsEdge g a → (q i n : ℕ) → i < n → n < edge_count g q → before a (edge q i) ≡ true → before a (edge q n) ≡ true
  goes a there q i n less lt h =
      by_times a (edge q n) there lt ∙ by (nat_eq a.process q) (sym (by_times a (edge q i) there (omega (arith, less, lt))) ∙ h)
    where
      process : a.process < length g.edges
      process = row_there g.edges a.process a.edge there

      by : (b : Bool) → (if b then nat_lt a.edge i else nat_lt a.edge (count_at g.times q i a.process)) ≡ true
          → (if b then nat_lt a.edge n else nat_lt a.edge (count_at g.times q n a.process)) ≡ true
      by true f = let low : a.edge < i = ltb-true a.edge i f in lt-ltb a.edge n (omega (arith, low, less))
      by false f =
          let low : a.edge < count_at g.times q i a.process = ltb-true a.edge (count_at g.times q i a.process) f in
          let grows = is.graph_is.rising a.process q i n process (omega (arith, less)) lt in
          lt-ltb a.edge (count_at g.times q n a.process) (omega (arith, low, grows))

  -- the processes from number q on
  all_from : (q : ℕ) (best : Option EdgeId) (rest : List (List EdgeSets)) → ((k : ℕ) → get_or g.edges (q + k) [] ≡ get_or rest k [])
      → ((b : EdgeId) → best ≡ Some b → IsEdge g b)
      → greatest_from before c (Some e) q best rest ≡ latest_from before (limit_of g e) c q best rest
  all_from q best [] at there = refl
  all_from q best (ss ∷ rest) at there =
      let same : get_or g.edges q [] ≡ ss = ap (λ k. get_or g.edges k []) (omega arith) ∙ at 0 in
      let count : length ss ≡ edge_count g q = sym (ap (λ (l : List EdgeSets). length l) same) in
      let one = one_process before e c q (limit_of g e q) (edge_count g q) (within q) (orders q) 0 best ss (omega (arith, count)) (λ b h i n less lt f. goes b (there b h) q i n less lt f) in
      let next : Option EdgeId = later_if before q best (last_below (limit_of g e q) (numbers_in c 0 ss)) in
      ap (λ o. greatest_from before c (Some e) (q + 1) o rest) one
      ∙ all_from (q + 1) next rest
      (λ k. ap (λ n. get_or g.edges n []) (omega arith) ∙ at (suc k))
      (later_there before e c q (limit_of g e q) (edge_count g q) (within q) (orders q) (λ a. IsEdge g a) best there (λ i lt. lt) ss count)

  all_edges : greatest_from before c (Some e) 0 None g.edges ≡ latest_in past e c
  all_edges = all_from 0 None g.edges (λ k. ap (λ n. get_or g.edges n []) (omega arith)) (λ b h. absurd (none-some b h))

pub latest_is : LatestIsGreatest
latest_is past e c is =
    let before : EdgeId → EdgeId → Bool = is_before_in past.program.now past.logs.now in
    sym (all_edges past is e c)
    ∙ ap (λ (sets : List (List EdgeSets)). greatest_from before c (Some e) 0 None sets) is.graph_is.sets
    ∙ of_those before c e (edge_sets_in past.logs.now)
