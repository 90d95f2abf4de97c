-- Intervals of a past that are not there.
use Rattle.std.proofs.Common.{◌≡◌, ℕ, ◌≤◌, None, ap, sym, length, subst}
use Rattle.std.specs.Prelude.{slice_get, get_or, []}
use Rattle.std.proofs.lemmas.Option.{slice_get_past}
use Rattle.ppd_index.specs.Indexes.{IsIndexOf, rows_at}
use Rattle.ppd_model.specs.Extents.{extents}
use Rattle.ppd_graph.specs.Ends.{first_edge, syncs_inside}
use Rattle.ppd_graph.proofs.FlowWords.{begins_in}
use Rattle.ppd_flow_past.specs.declared.past.Past.{Past}
use Rattle.ppd_flow_past.proofs.Edges.Standing.{extents_count}

module _ (past : Past) (p k : ℕ) (h : IsIndexOf past.plan.now past.logs.now past.index.now.tables)
    (over : length (rows_at past.index.now.tables p) ≤ k) where
  not_there : slice_get (extents (get_or past.logs.now.lists p [])) k ≡ None
  not_there =
      slice_get_past (extents (get_or past.logs.now.lists p [])) k (subst (λ n. n ≤ k) (sym (extents_count past p h)) over)

  pub no_edge : first_edge (get_or past.logs.now.lists p []) k ≡ 0
  no_edge = ap (begins_in (get_or past.logs.now.lists p [])) not_there

  pub no_syncs : syncs_inside (get_or past.logs.now.lists p []) (slice_get (extents (get_or past.logs.now.lists p [])) k) ≡ 0
  no_syncs = ap (syncs_inside (get_or past.logs.now.lists p [])) not_there
