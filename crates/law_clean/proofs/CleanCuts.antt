-- The logs of a clean item's past, cut after the last wanted edge of each process: each interval is replayed to what it
-- has by then.
use Rattle.law_steps.specs.Policies.{setting_by}
use Rattle.ppd_model.specs.Setting.{setting_of}
use Rattle.law_clean.proofs.CutEdges.{cut_log, g, replays_of_cut}
use Rattle.law_clean.proofs.EdgeEnds.{EndsEdge}
use Rattle.law_clean.proofs.PastClear.{clear_before, clear_own}
use Rattle.law_clean.proofs.PastsGrow.{before_back}
use Rattle.law_clean.specs.Ordered.{IsUnracedIn}
use Rattle.law_clean.specs.Pasts.{Lies, is_clean}
use Rattle.law_steps.specs.Theorem.Laws.{modelled_of, replay_of}
use Rattle.ppd_ast.specs.Valid.{IsValid}
use Rattle.ppd_ast.specs.declared.plan.Plan.{Plan}
use Rattle.ppd_ast.specs.declared.plan.Policy.{Policy}
use Rattle.ppd_ast.specs.declared.program.Program.{Program}
use Rattle.ppd_blocks.specs.Blocks.{plan_of}
use Rattle.ppd_model.specs.IntervalLogs.{interval_log}
use Rattle.ppd_model.specs.HappenedBefore.{Before, EdgeBefore, across, earlier, edge, node}
use Rattle.ppd_model.specs.Intervals.{Split, splits}
use Rattle.ppd_model.specs.Record.{record_of}
use Rattle.ppd_model.specs.Schedule.{IsWhole}
use Rattle.ppd_model.specs.Story.{story}
use Rattle.ppd_model.specs.Synchronizations.{sync_of}
use Rattle.ppd_model.specs.declared.tracing.Story.{Story}
use Rattle.std.proofs.Common.{[], List, Some, arith, inl, inr, length, refl, subst, sym, true, ℕ, ◌+◌, ◌-◌, ◌<◌, ◌≡◌, ◌≤◌, ◌⊎◌}
use Rattle.std.proofs.lemmas.Bool.{cases_lt}
use Rattle.std.specs.Prelude.{filter_map, get_or, slice_get}

module _ (program : Program) (policy : Policy) (budget : ℕ) (h : List ℕ) (p : ℕ) (l : Lies) (v : IsValid program) (whole : IsWhole (setting_by program policy budget) h)
    (there : p < length (story (setting_by program policy budget) h).steps)
    (within : l.edge ≤ length (filter_map sync_of (get_or (story (setting_by program policy budget) h).steps p [])))
    (clean : is_clean program (story (setting_by program policy budget) h) p l ≡ true) where
  abbrev plan : Plan
  plan = plan_of program policy

  abbrev s : Story
  s = story (setting_of program plan budget) h

  abbrev IsWanted : ℕ → ℕ → Type 0
  IsWanted q i = ((q ≡ p) × (i ≡ l.edge)) ⊎ EdgeBefore program (record_of s) (edge q i) (edge p l.edge)

  -- no race has a wanted edge, or an edge of the same process before one
  pub clear_to : (q i : ℕ) → IsWanted q i → (e : ℕ) → e ≤ i → IsUnracedIn (setting_of program plan budget) h q e
  clear_to q i (inl same) e le = elim (cases_lt e l.edge) [
    | inl lt ↦ subst (λ z. IsUnracedIn (setting_of program plan budget) h z e) (sym same.0) (clear_before program s p l clean p e (earlier refl lt))
    | inr ge ↦
        let i_is : i ≡ l.edge = same.1 in
        let is : l.edge ≡ e = omega (arith, ge, le, i_is) in
        subst (λ z. IsUnracedIn (setting_of program plan budget) h z e) (sym same.0) (subst (λ z. IsUnracedIn (setting_of program plan budget) h p z) is (clear_own program s p l clean))
  ]
  clear_to q i (inr (earlier same lt)) e le =
      let less : i < l.edge = lt in
      clear_before program s p l clean q e (earlier same (omega (arith, less, le)))
  clear_to q i (inr (across apart j is b)) e le =
      let sum : e + (i - e) ≡ i = omega (arith, le) in
      clear_before program s p l clean q e
      (across apart j is (before_back program (record_of s) (i - e) q e (node p j) (subst (λ z. Before program (record_of s) (node q z) (node p j)) (sym sum) b)))

  -- the log of process q, cut after the synchronization that ends a wanted edge
  pub clean_cut : (q i : ℕ) (wanted : IsWanted q i) (ends : EndsEdge (setting_of program plan budget) h q i) (x : Split)
      → slice_get (splits (setting_of program plan budget) (story (setting_of program plan budget) (g program policy budget h q i v whole ends (clear_to q i wanted)))) q ≡ Some x
      → (k : ℕ) → replay_of (setting_of program plan budget) (interval_log plan (cut_log program policy budget h q i v whole ends (clear_to q i wanted)) k) ≡ modelled_of x (slice_get x.spans k)
  clean_cut q i wanted ends x at k = replays_of_cut program policy budget h q i v whole ends (clear_to q i wanted) x at k
