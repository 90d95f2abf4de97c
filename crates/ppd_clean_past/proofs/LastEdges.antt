-- The number of a process's last edge, as the graph of a past has it.
use Rattle.std.proofs.Common.{◌≡◌, ℕ, zero, suc, ◌+◌, ◌-◌, List, [], ◌∷◌, None, inl, inr, ◌⊎◌, refl, sym, subst, ◌∙◌, arith, get_or, length, map}
use Rattle.std.specs.Prelude.{filter_map}
use Rattle.ppd_ast.specs.declared.program.Program.{Program}
use Rattle.ppd_clean_past.specs.ByOrder.{last_edge}
use Rattle.ppd_model.specs.declared.entry.Entry.{Entry}
use Rattle.ppd_model.specs.declared.entry.Logs.{Logs}
use Rattle.ppd_flow_past.specs.declared.past.Past.{Past}
use Rattle.ppd_flow_past.specs.Pasts.{IsPast}
use Rattle.ppd_graph.specs.declared.sync_graph.SyncGraph.{SyncGraph}
use Rattle.ppd_graph.specs.Graphs.{IsGraphOf, edge_count}
use Rattle.ppd_graph.specs.LogRecord.{sets_from}
use Rattle.ppd_graph.proofs.Built.{sets_count}
use Rattle.ppd_model.specs.RecordedSets.{sync_in}

counted_in : (lists : List (List Entry)) (q : ℕ)
    → (length (get_or (map (sets_from None) lists) q []) ≡ length (get_or (map (filter_map sync_in) lists) q []) + 1)
    ⊎ ((length (get_or (map (sets_from None) lists) q []) ≡ 0) × (length (get_or (map (filter_map sync_in) lists) q []) ≡ 0))
counted_in [] q = inr (refl, refl)
counted_in (es ∷ lists) zero = inl (sets_count None es)
counted_in (es ∷ lists) (suc q) = counted_in lists q

module _ (program : Program) (logs : Logs) (g : SyncGraph) (is : IsGraphOf program logs g) where
  pub counted : (q : ℕ) → (edge_count g q ≡ last_edge logs q + 1) ⊎ ((edge_count g q ≡ 0) × (last_edge logs q ≡ 0))
  counted q =
      subst (λ sets. (length (get_or sets q []) ≡ last_edge logs q + 1) ⊎ ((length (get_or sets q []) ≡ 0) × (last_edge logs q ≡ 0)))
      (sym is.sets) (counted_in logs.lists q)

module _ (past : Past) (is : IsPast past) (p n : ℕ) (n_is : n ≡ edge_count past.graph.now p) where
  pub last_none : n ≡ 0 → 0 ≡ last_edge past.logs.now p
  last_none e = elim (counted past.program.now past.logs.now past.graph.now is.graph_is p) [
    | inl c ↦ absurd (omega (arith, n_is, e, c))
    | inr z ↦ sym z.1
  ]

  pub last_some : (n ≡ 0 → ⊥) → n - 1 ≡ last_edge past.logs.now p
  last_some other = elim (counted past.program.now past.logs.now past.graph.now is.graph_is p) [
    | inl c ↦ omega (arith, n_is, c)
    | inr z ↦ absurd (other (n_is ∙ z.0))
  ]
