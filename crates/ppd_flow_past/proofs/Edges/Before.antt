-- The times of a past's graph order its edges as happened-before does, also to an edge that is none of its.
use Rattle.std.proofs.Common.{◌≡◌, ℕ, zero, suc, ◌+◌, ◌<◌, ◌≤◌, Bool, true, false, ◌&&◌, ◌||◌, List, [], ◌∷◌, None, inl, inr, ◌⊎◌, refl, ap, ap₂, sym, subst, ◌∙◌, arith, length, get_or, map}
use Rattle.std.specs.Prelude.{filter_map, is_some, nat_eq, nat_lt, if◌then◌else◌}
use Rattle.std.proofs.lemmas.Option.{slice_get_past}
use Rattle.std.proofs.Math.Bool.{and-false}
use Rattle.ppd_ast.specs.declared.program.Program.{Program}
use Rattle.ppd_model.specs.declared.entry.Entry.{Entry}
use Rattle.ppd_model.specs.declared.entry.Logs.{Logs}
use Rattle.ppd_graph.specs.declared.sync_graph.SyncGraph.{SyncGraph}
use Rattle.ppd_graph.specs.Graphs.{IsEdge, IsGraphOf, edge_count, is_before_by}
use Rattle.ppd_graph.specs.LogRecord.{sets_from}
use Rattle.ppd_graph.proofs.Built.{sets_count}
use Rattle.ppd_model.specs.declared.graph.EdgeId.{EdgeId}
use Rattle.ppd_model.specs.declared.graph.NodeId.{NodeId}
use Rattle.ppd_model.specs.HappenedBefore.{closed_through, is_before, is_direct, is_edge_before, node, sync_at}
use Rattle.ppd_model.specs.RecordedSets.{record_in, sync_in}
use Rattle.ppd_model.specs.Synchronizations.{Sync, leads_at}
use Rattle.ppd_model.proofs.OrderWords.{nodes_from}
use Rattle.ppd_model.proofs.Tested.{tests_edges, leads_to_none}
use Rattle.ppd_ast.proofs.Those.{both}

-- ---- nothing is before a synchronization that is not there

no_direct : (program : Program) (syncs : List (List Sync)) (a b : NodeId) → sync_at syncs b ≡ None
    → is_direct program syncs a b ≡ false
no_direct program syncs a b e =
    ap₂ (λ x y. x || y)
    (ap (λ o. (nat_eq a.process b.process && nat_eq (a.sync + 1) b.sync) && is_some o) e ∙ and-false _)
    (ap (leads_at program (sync_at syncs a)) e ∙ leads_to_none program (sync_at syncs a))

no_way : (program : Program) (syncs : List (List Sync)) (ns : List NodeId) (a b : NodeId) → sync_at syncs b ≡ None
    → closed_through (is_direct program syncs) ns a b ≡ false
no_way program syncs [] a b e = no_direct program syncs a b e
no_way program syncs (n ∷ ns) a b e =
    ap₂ (λ x y. x || (closed_through (is_direct program syncs) ns a n && y)) (no_way program syncs ns a b e)
    (no_way program syncs ns n b e)
    ∙ and-false (closed_through (is_direct program syncs) ns a n)

none_before : (program : Program) (syncs : List (List Sync)) (a : NodeId) (q j : ℕ) → length (get_or syncs q []) ≤ j
    → is_before program syncs a (node q j) ≡ false
none_before program syncs a q j le =
    no_way program syncs (nodes_from 0 syncs) a (node q j) (slice_get_past (get_or syncs q []) j le)

-- ---- how many edges there are

there_or_none : (lists : List (List Entry)) (q j : ℕ) → length (get_or (map (sets_from None) lists) q []) ≤ j
    → (length (get_or (map (filter_map sync_in) lists) q []) < j) ⊎ (j ≡ 0)
there_or_none [] q zero le = inr refl
there_or_none [] q (suc j) le = inl (omega arith)
there_or_none (es ∷ lists) zero j le = let count = sets_count None es in inl (omega (arith, count))
there_or_none (es ∷ lists) (suc q) j le = there_or_none lists q j le

module _ (program : Program) (logs : Logs) (g : SyncGraph) (is : IsGraphOf program logs g) where
  pub before_is : (a b : EdgeId) → IsEdge g a → IsEdge g b
      → is_before_by g a b ≡ is_edge_before program (record_in logs) a b
  before_is a b x y =
      both (is_before_by g a b) (is_edge_before program (record_in logs) a b)
      (λ h. (tests_edges program (record_in logs) a b).1 ((is.order a b x y).0 h))
      (λ h. (is.order a b x y).1 ((tests_edges program (record_in logs) a b).0 h))

  -- to an edge that is not there only those of its own process are
  pub before_none : (a b : EdgeId) → edge_count g b.process ≤ b.edge
      → (nat_eq a.process b.process && nat_lt a.edge b.edge) ≡ is_edge_before program (record_in logs) a b
  before_none a b le =
      none b.edge (there_or_none logs.lists b.process b.edge (subst (λ sets. length
      (get_or sets b.process []) ≤ b.edge) is.sets le))
    where
      -- the test by cases, where the way between them is none
      by : (same earlier way : Bool) → way ≡ false → (same && earlier) ≡ (if same then earlier else way)
      by true earlier way e = refl
      by false earlier way e = sym e

      none : (j : ℕ) → (length (get_or (record_in logs) b.process []) < j) ⊎ (j ≡ 0)
          → (nat_eq a.process b.process && nat_lt a.edge j)
          ≡ is_edge_before program (record_in logs) a (record b { edge = j })
      none zero o = by (nat_eq a.process b.process) (nat_lt a.edge 0) false refl
      none (suc j) (inl lt) =
          by (nat_eq a.process b.process) (nat_lt a.edge (suc j)) _
          (none_before program (record_in logs) (node a.process a.edge) b.process j (omega (arith, lt)))
      none (suc j) (inr e) = absurd (omega (arith, e))
