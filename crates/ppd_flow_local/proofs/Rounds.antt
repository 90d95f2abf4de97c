-- From an interval to the one round it.
use Rattle.std.proofs.Common.{◌≡◌, ℕ, ◌≤◌, Bool, List, [], Result, Ok, Err, Option, Some, ap, sym, ◌∙◌, subst, take, length}
use Rattle.std.proofs.lemmas.Result.{err_from_is_err_and}
use Rattle.std.specs.Prelude.{get_or, ◌-◌, if◌then◌else◌}
use Rattle.std.specs.Result.{IsErrAnd}
use Rattle.ppd_ast.specs.declared.plan.BlockKind.{BlockKind}
use Rattle.ppd_ast.specs.declared.plan.BlockKind.TheVariants as block
use Rattle.ppd_sem.specs.Blocks.{prelog_cells}
use Rattle.ppd_model.specs.NearIntervals.{is_in}
use Rattle.ppd_model.specs.declared.flow.Item.{Item}
use Rattle.ppd_model.specs.declared.flow.Origin.{Origin}
use Rattle.ppd_model.specs.declared.flow.Origin.TheVariants as origin
use Rattle.ppd_flow_tables.specs.FlowError.{FlowError}
use Rattle.ppd_graph.specs.Control.{control_above, control_outside}
use Rattle.ppd_graph.specs.Locals.{Scan, local_in, local_outside, outer_frame, parameter, scan, writer_at}
use Rattle.ppd_graph.specs.Looked.{Looked, after_replay, known}
use Rattle.ppd_graph.specs.Own.{frame_at}
use Rattle.ppd_graph.specs.Seen.{call_of, kind_at, last_item, outer_of, outer_place, place_of}
use Rattle.ppd_graph.specs.declared.writer.Writer.{Writer}
use Rattle.ppd_graph.specs.declared.writer.Writer.TheVariants.{Of}
use Rattle.ppd_flow_local.specs.declared.search.Search.{Search}
use Rattle.ppd_flow_local.specs.Searches.{IsFound, plan_in, program_in, seen, written_in}
use Rattle.ppd_flow_local.proofs.Joined.{and_so, failed, failed_alone, is_given, joined}

-- a place among items is one among the same items
pub within_same : (j : ℕ) (items xs ys : List Item) → xs ≡ items → ys ≡ items → j ≤ length xs → j ≤ length ys
within_same j items xs ys e f le = subst (λ (zs : List Item). j ≤ length zs) (e ∙ sym f) le

module _ (s : Search) where
  -- what is found by a scan of the items before a place
  by_scan : (k j frame c : ℕ) (items : List Item) (st : Scan) (n o : ℕ) (r : Result (Option Origin) FlowError)
      → items ≡ get_or (seen s).items k [] → st ≡ scan (program_in s) (plan_in s) frame c (take j items)
      → IsFound s (written_in s k c st.loops st.writer) n o r
      → IsFound s (local_in (program_in s) (plan_in s) (seen s) s.process k j frame c) n o r
  by_scan k j frame c items st n o r i e f =
      subst (λ (z : List Item). IsFound s
      (written_in s k c (scan (program_in s) (plan_in s) frame c (take j z)).loops (scan (program_in s) (plan_in s) frame c (take j z)).writer) n o r) i
      (subst (λ (z : Scan). IsFound s (written_in s k c z.loops z.writer) n o r) e f)

  -- the same by what is known of the scan
  pub by_last : (k j frame c : ℕ) (items : List Item) (st : Scan) (loops : List ℕ) (writer : Writer) (n o : ℕ)
      (r : Result (Option Origin) FlowError) → items ≡ get_or (seen s).items k []
      → st ≡ scan (program_in s) (plan_in s) frame c (take j items) → loops ≡ st.loops → writer ≡ st.writer
      → IsFound s (written_in s k c loops writer) n o r
      → IsFound s (local_in (program_in s) (plan_in s) (seen s) s.process k j frame c) n o r
  by_last k j frame c items st loops writer n o r i e a b f =
      by_scan k j frame c items st n o r i e
      (subst (λ ms. IsFound s (written_in s k c ms st.writer) n o r) a
      (subst (λ (w : Writer). IsFound s (written_in s k c loops w) n o r) b f))

  -- the last item, where the items are there
  pub last_from : (k n m : ℕ) (items : List Item) (r : Result Origin FlowError)
      → IsFound s (after_replay k (known (get_or (seen s).items k []))) n m (Ok items)
      → IsFound s (known (origin.Item s.process k (length items - 1))) m m r
      → IsFound s (last_item (seen s) s.process k) n m r
  last_from k n m items r got f =
      joined s (after_replay k (known (get_or (seen s).items k []))) (known (origin.Item s.process k (length (get_or (seen s).items k []) - 1))) items
      n m m r got
      (subst (λ (xs : List Item). IsFound s (known (origin.Item s.process k (length xs - 1))) m m r)
      (sym (is_given s (after_replay k (known (get_or (seen s).items k []))) items n m got)) f)

  -- what is found among the items of an interval, after its replay
  pub found_among : (k n m o : ℕ) (items : List Item) (a : Looked ℕ (Option Origin)) (r : Result (Option Origin) FlowError)
      → IsFound s (after_replay k (known (get_or (seen s).items k []))) n m (Ok items) → IsFound s a m o r
      → IsFound s (after_replay k a) n o r
  found_among k n m o items a r got f = joined s (after_replay k (known (get_or (seen s).items k []))) a items n m o r got f

  -- these are the items that the replay gave
  pub items_at : (k n m : ℕ) (items xs : List Item) → IsFound s (after_replay k (known (get_or (seen s).items k []))) n m (Ok items)
      → xs ≡ items → xs ≡ get_or (seen s).items k []
  items_at k n m items xs got e = e ∙ sym (is_given s (after_replay k (known (get_or (seen s).items k []))) items n m got)

  -- the replay failed, and nothing is looked for after it
  pub replay_fails : {A : Type 0} (k n m : ℕ) (a : Looked ℕ A) (e : FlowError) (r : Result A FlowError)
      → IsFound s (after_replay k (known (get_or (seen s).items k []))) n m (Err e) → IsErrAnd r (λ x. x ≡ e)
      → IsFound s (after_replay k a) n m r
  replay_fails {A = A} k n m a e r got h =
      let is = err_from_is_err_and r h in
      subst (λ (z : Result A FlowError). IsFound s (after_replay k a) n m z) (sym (is.1 ∙ ap (λ x. Err x) is.2))
      (failed s (after_replay k (known (get_or (seen s).items k []))) a n m e got)

  -- the same of the interval round k
  pub outer_fails : {A : Type 0} (k outer n m : ℕ) (a : Looked ℕ A) (e : FlowError) (r : Result A FlowError)
      → outer ≡ outer_of (seen s) k → IsFound s (after_replay outer (known (get_or (seen s).items outer []))) n m (Err e)
      → IsErrAnd r (λ x. x ≡ e) → IsFound s (after_replay (outer_of (seen s) k) a) n m r
  outer_fails k outer n m a e r out got h =
      subst (λ at. IsFound s (after_replay at a) n m r) out (replay_fails outer n m a e r got h)

  -- the writer is the last item of a function's interval
  pub function_written : (k f n m : ℕ) (w : Writer) (x : Origin) → w ≡ Of f
      → IsFound s (last_item (seen s) s.process f) n m (Ok x) → IsFound s (writer_at (seen s) s.process k w) n m (Ok (Some x))
  function_written k f n m w x e found =
      subst (λ (z : Writer). IsFound s (writer_at (seen s) s.process k z) n m (Ok (Some x))) (sym e)
      (and_so s (last_item (seen s) s.process f) x (Some (last_item (seen s) s.process f).found) (Some x) n m found
      (ap (λ (z : Origin). Some z) (is_given s (last_item (seen s) s.process f) x n m found)))

  pub function_fails : (k f n m : ℕ) (w : Writer) (x : FlowError) → w ≡ Of f
      → IsFound s (last_item (seen s) s.process f) n m (Err x) → IsFound s (writer_at (seen s) s.process k w) n m (Err x)
  function_fails k f n m w x e found =
      subst (λ (z : Writer). IsFound s (writer_at (seen s) s.process k z) n m (Err x)) (sym e)
      (failed_alone s (last_item (seen s) s.process f) (Some (last_item (seen s) s.process f).found) n m x found)

  -- a cell of an interval of a function: its call, where it is a parameter
  pub parameter_found : (k c b f n o : ℕ) (kind : BlockKind) (cells : List ℕ) (is : Bool) (r : Result Origin FlowError)
      → kind ≡ kind_at (plan_in s) (seen s) k → kind ≡ block.Function f → b ≡ get_or (seen s).blocks k 0
      → cells ≡ prelog_cells (plan_in s) b → is ≡ is_in c cells
      → IsFound s (if is then call_of (seen s) s.process k else known origin.Initial) n o r
      → IsFound s (parameter (plan_in s) (seen s) s.process k c (kind_at (plan_in s) (seen s) k)) n o r
  parameter_found k c b f n o kind cells is r at of bl ce i found =
      subst (λ (z : BlockKind). IsFound s (parameter (plan_in s) (seen s) s.process k c z) n o r) (sym of ∙ at)
      (subst (λ z. IsFound s (if is_in c (prelog_cells (plan_in s) z) then call_of (seen s) s.process k else known origin.Initial) n o r) bl
      (subst (λ (z : List ℕ). IsFound s (if is_in c z then call_of (seen s) s.process k else known origin.Initial) n o r) ce
      (subst (λ (z : Bool). IsFound s (if z then call_of (seen s) s.process k else known origin.Initial) n o r) i found)))

  module _ (k outer item : ℕ) (items : List Item) (n m : ℕ) (out : outer ≡ outer_of (seen s) k)
      (place : item ≡ place_of k items) (got : IsFound s (after_replay outer (known (get_or (seen s).items outer []))) n m (Ok items)) where
    item_is : item ≡ place_of k (get_or (seen s).items outer [])
    item_is = place ∙ ap (place_of k) (sym (is_given s (after_replay outer (known (get_or (seen s).items outer []))) items n m got))

    abbrev local_goal : ℕ → ℕ → ℕ → ℕ → ℕ → Result Origin FlowError → Type 0
    local_goal at j frame c o r =
        IsFound s (after_replay at (local_outside (program_in s) (plan_in s) (seen s) s.process at j frame c)) n o r

    pub local_from : (c o : ℕ) (r : Result Origin FlowError)
        → IsFound s (local_outside (program_in s) (plan_in s) (seen s) s.process outer item (frame_at (program_in s) (plan_in s) (seen s) outer item) c) m o r
        → local_goal (outer_of (seen s) k) (outer_place (seen s) k) (outer_frame (program_in s) (plan_in s) (seen s) k) c o r
    local_from c o r f =
        subst (λ at. local_goal at (place_of k (get_or (seen s).items at [])) (frame_at (program_in s) (plan_in s) (seen s) at (place_of k (get_or (seen s).items at []))) c o r) out
        (subst (λ j. local_goal outer j (frame_at (program_in s) (plan_in s) (seen s) outer j) c o r) item_is
        (joined s (after_replay outer (known (get_or (seen s).items outer [])))
        (local_outside (program_in s) (plan_in s) (seen s) s.process outer item (frame_at (program_in s) (plan_in s) (seen s) outer item) c) items
        n m o r got f))

    -- the call that began interval k stands straight before it
    pub call_from : (r : Result Origin FlowError) → IsFound s (known (origin.Item s.process outer (item - 1))) m m r
        → IsFound s (call_of (seen s) s.process k) n m r
    call_from r f =
        subst (λ at. IsFound s (after_replay at (known (origin.Item s.process at (place_of k (get_or (seen s).items at []) - 1)))) n m r) out
        (subst (λ j. IsFound s (after_replay outer (known (origin.Item s.process outer (j - 1)))) n m r) item_is
        (joined s (after_replay outer (known (get_or (seen s).items outer []))) (known (origin.Item s.process outer (item - 1))) items n m m r got f))

    abbrev control_goal : ℕ → ℕ → ℕ → ℕ → Result Origin FlowError → Type 0
    control_goal at j stmt o r =
        IsFound s (after_replay at (control_outside (program_in s) (plan_in s) (seen s) s.process at j stmt)) n o r

    control_moved : (stmt o : ℕ) (r : Result Origin FlowError) → control_goal outer item stmt o r
        → control_goal (outer_of (seen s) k) (outer_place (seen s) k) stmt o r
    control_moved stmt o r f =
        subst (λ at. control_goal at (place_of k (get_or (seen s).items at [])) stmt o r) out (subst (λ j. control_goal outer j stmt o r) item_is f)

    pub control_from : (stmt o : ℕ) (r : Result Origin FlowError)
        → IsFound s (control_outside (program_in s) (plan_in s) (seen s) s.process outer item stmt) m o r
        → IsFound s (control_above (program_in s) (plan_in s) (seen s) s.process k (block.Loop stmt)) n o r
    control_from stmt o r f = control_moved stmt o r
        (joined s (after_replay outer (known (get_or (seen s).items outer []))) (control_outside (program_in s) (plan_in s) (seen s) s.process outer item stmt) items
        n m o r got f)
