-- The edges of a loop: what it left, and then what let it run.
use Rattle.std.proofs.Common.{◌≡◌, ℕ, List, [], ◌∷◌, ◌++◌, Result, Ok, Err, ap, ◌∙◌, sym, subst}
use Rattle.std.specs.Prelude.{ℤ}
use Rattle.ppd_ast.specs.declared.plan.BlockKind.TheVariants as block
use Rattle.ppd_model.specs.declared.flow.EdgeKind.TheVariants.{Control}
use Rattle.ppd_model.specs.declared.flow.FlowEdge.{FlowEdge}
use Rattle.ppd_model.specs.declared.flow.Origin.{Origin}
use Rattle.ppd_model.specs.FlowbackEdges.{bare_edge}
use Rattle.ppd_flow_tables.specs.FlowError.{FlowError}
use Rattle.ppd_sem.specs.Blocks.{postlog_cells}
use Rattle.ppd_graph.specs.Control.{control_origin}
use Rattle.ppd_graph.specs.Looked.{Looked, look_map}
use Rattle.ppd_graph.specs.Own.{edges_of_nested, frame_at, left_edges}
use Rattle.ppd_flow_local.specs.declared.search.Search.{Search}
use Rattle.ppd_flow_local.specs.Searches.{IsFound, plan_in, program_in, seen}
use Rattle.ppd_flow_local.proofs.Joined.{after_look, and_so, failed, is_given, joined}

-- the edge from what was found is added
pub control_added : (s : Search) (a : Looked ℕ Origin) (es now : List FlowEdge) (from : Origin) (n m : ℕ)
    → IsFound s a n m (Ok from) → now ≡ es ++ bare_edge Control from ∷ []
    → IsFound s (look_map (λ x. es ++ bare_edge Control x ∷ []) a) n m (Ok now)
control_added s a es now from n m f e =
    and_so s a from (es ++ bare_edge Control a.found ∷ []) now n m f
    (ap (λ (x : Origin). es ++ bare_edge Control x ∷ []) (is_given s a from n m f) ∙ sym e)

module _ (s : Search) (k j stmt b frame : ℕ) (cells : List ℕ) (values : List ℤ)
    (fr : frame ≡ frame_at (program_in s) (plan_in s) (seen s) k j) (ce : cells ≡ postlog_cells (plan_in s) b) where
  abbrev edges_in : ℕ → List ℕ → Looked ℕ (List FlowEdge)
  edges_in f cs = left_edges (program_in s) (plan_in s) (seen s) s.process k j f cs values

  -- what the loop left
  abbrev brought : Looked ℕ (List FlowEdge)
  brought = edges_in (frame_at (program_in s) (plan_in s) (seen s) k j) (postlog_cells (plan_in s) b)

  abbrev control : Looked ℕ Origin
  control = control_origin (program_in s) (plan_in s) (seen s) s.process k j stmt

  abbrev all : List FlowEdge
  all = brought.found ++ bare_edge Control control.found ∷ []

  abbrev IsNested : ℕ → (n o : ℕ) → Result (List FlowEdge) FlowError → Type 0
  IsNested m n o r =
      IsFound s (edges_of_nested (program_in s) (plan_in s) (seen s) s.process k j m b values (block.Loop stmt)) n o r

  moved : (n m : ℕ) (r : Result (List FlowEdge) FlowError) → IsFound s (edges_in frame cells) n m r → IsFound s brought n m r
  moved n m r f =
      subst (λ f. IsFound s (edges_in f (postlog_cells (plan_in s) b)) n m r) fr
      (subst (λ (cs : List ℕ). IsFound s (edges_in frame cs) n m r) ce f)

  pub loop_found : (i n m o : ℕ) (ls : List FlowEdge) (r : Result (List FlowEdge) FlowError)
      → IsFound s (edges_in frame cells) n m (Ok ls)
      → IsFound s (look_map (λ from. ls ++ bare_edge Control from ∷ []) control) m o r → IsNested i n o r
  loop_found i n m o ls r f g =
      let left = moved n m (Ok ls) f in
      subst (λ (es : List FlowEdge). IsFound s (after_look brought (look_map (λ from. es ++ bare_edge Control from ∷ []) control)) n o r)
      (sym (is_given s brought ls n m left))
      (joined s brought (look_map (λ from. ls ++ bare_edge Control from ∷ []) control) ls n m o r left g)

  pub loop_failed : (i n m : ℕ) (x : FlowError) → IsFound s (edges_in frame cells) n m (Err x) → IsNested i n m (Err x)
  loop_failed i n m x f = failed s brought (look_map (λ z. all) control) n m x (moved n m (Err x) f)
