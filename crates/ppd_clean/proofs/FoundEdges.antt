-- The edges that a search by replays finds, or why it finds none.
use Rattle.std.proofs.Common.{◌≡◌, ℕ, List, Option, Some, None, Result, Ok, Err, refl, ap, ◌∙◌}
use Rattle.ppd_clean_past.specs.declared.asked.Asked.{Asked}
use Rattle.ppd_clean.specs.Answers.{AreEdges, edges_in, of_flow}
use Rattle.ppd_clean.proofs.Found.{one_fails}
use Rattle.ppd_flow.specs.Answers.{IsEdges, answer_if}
use Rattle.law_flow.specs.Missing.{write_at}
use Rattle.ppd_graph.specs.Found.{found_edges}
use Rattle.ppd_graph.specs.Shared.{Missing}
use Rattle.ppd_model.specs.declared.flow_error.FlowError.{FlowError}
use Rattle.ppd_model.specs.declared.flow_error.FlowError.TheVariants as flow_error
use Rattle.ppd_flow_past.specs.declared.past.Past.{Past}
use Rattle.ppd_flow.specs.SharedCells.{seens_in}
use Rattle.ppd_model.specs.declared.flow.FlowEdge.{FlowEdge}

module _ (past : Past) (a : Asked) where
  abbrev replays : List (ℕ × ℕ)
  replays = (found_edges past.program.now past.plan.now past.logs.now (seens_in past) a.process a.interval a.item).replays

  ok_edges : (x : Option (Result (List FlowEdge) Missing)) (es : List FlowEdge) → answer_if x ≡ Ok es → x ≡ Some (Ok es)
  ok_edges None es e = absurd (cc e)
  ok_edges (Some (Ok fs)) es e = let same : fs ≡ es = cc e in ap (λ z. Some (Ok z)) same
  ok_edges (Some (Err m)) es e = absurd (cc e)

  no_edges : (x : Option (Result (List FlowEdge) Missing)) → answer_if x ≡ Err flow_error.NoEvent → x ≡ None
  no_edges None e = refl
  no_edges (Some (Ok fs)) e = absurd (cc e)
  no_edges (Some (Err m)) e = absurd (cc e)

  missing_edges : (x : Option (Result (List FlowEdge) Missing)) (q n c : ℕ) → answer_if x ≡ Err (flow_error.Sets q n c) → x ≡ Some (Err (write_at q n c))
  missing_edges None q n c e = absurd (cc e)
  missing_edges (Some (Ok fs)) q n c e = absurd (cc e)
  missing_edges (Some (Err m)) q n c e =
      let p_is : m.process ≡ q = cc e in
      let n_is : m.entry ≡ n = cc e in
      let c_is : m.cell ≡ c = cc e in
      ap (λ z. Some (Err (write_at z m.entry m.cell))) p_is ∙ (ap (λ z. Some (Err (write_at q z m.cell))) n_is ∙ ap (λ z. Some (Err (write_at q n z))) c_is)

  pub edges_found : (es : List FlowEdge) (n m : ℕ) → IsEdges past a.process a.interval a.item n m (Ok es) → AreEdges past a (Ok es)
  edges_found es n m f = ok_edges (edges_in past a) es f.1

  pub edges_failed : (e : FlowError) (n m : ℕ) → IsEdges past a.process a.interval a.item n m (Err e) → AreEdges past a (Err (of_flow e))
  edges_failed (flow_error.Diverged q k) n m f = one_fails past replays q k f
  edges_failed flow_error.NoEvent n m f = no_edges (edges_in past a) f.1
  edges_failed (flow_error.Sets q k c) n m f = missing_edges (edges_in past a) q k c f.1
  edges_failed flow_error.Memory n m f = tt
