-- The definition's cut of a process's whole log is its log after the synchronization, and the end of a cut log.
use Rattle.law_steps.specs.Policies.{setting_by}
use Rattle.ppd_model.specs.Setting.{setting_of}
use Rattle.std.proofs.Common.{◌≡◌, ℕ, ◌≤◌, true, false, List, [], ◌∷◌, ◌++◌, length, Option, Some, None, refl, ap, sym, subst, ◌∙◌, append_assoc, true≢false}
use Rattle.std.specs.Prelude.{is_some, slice_get, get_or}
use Rattle.ppd_ast.specs.declared.plan.Plan.{Plan}
use Rattle.ppd_ast.specs.declared.plan.Policy.{Policy}
use Rattle.ppd_ast.specs.declared.program.Program.{Program}
use Rattle.ppd_ast.specs.declared.status.Status.{Status}
use Rattle.ppd_ast.specs.Valid.{IsValid}
use Rattle.ppd_blocks.specs.Blocks.{plan_of}
use Rattle.ppd_sem.specs.declared.proc.Proc.{Proc}
use Rattle.ppd_sem.specs.Process.{act, need_of}
use Rattle.ppd_sem.proofs.NeedWords.{need_by_status}
use Rattle.ppd_model.specs.declared.state.Logging.{Logging}
use Rattle.ppd_model.specs.Logs.{begun_log, closed_log, log_of, log_step, status_of}
use Rattle.ppd_model.specs.Schedule.{IsWhole}
use Rattle.ppd_model.specs.Story.{Moment, told, unit_started}
use Rattle.ppd_model.specs.Synchronizations.{kind_of_sync}
use Rattle.ppd_model.proofs.Statuses.{status_after}
use Rattle.law_steps.specs.OpenBlocks.Run.{IsRun}
use Rattle.law_steps.proofs.OpenBlocks.Runs.{schedules_run}
use Rattle.law_steps.proofs.OpenBlocks.Told.{own_syncs_are}
use Rattle.law_clean.specs.Cuts.{cut, is_unit, stop}
use Rattle.law_clean.specs.Ordered.{IsUnracedIn}
use Rattle.law_clean.proofs.CutEdges.{cut_log, g, kept_is, m, more, ms, need_is, s0, there}
use Rattle.law_clean.proofs.CutIs.{GoOn, cut_is, tail}
use Rattle.law_clean.proofs.CutRuns.{log_proc, moments_grow}
use Rattle.law_clean.proofs.EdgeEnds.{EndsEdge, sync_need}
use Rattle.law_clean.proofs.NoUnit.{no_unit}
use Rattle.law_clean.proofs.Stopped.{after_all, runs_before}

module _ (program : Program) (plan : Plan) where
  -- no step before a state that goes on ends the process
  goes_on : (xs more : List Moment) (s : Proc) → s.status ≡ None → IsRun program plan s (xs ++ more) → (after_all program plan s xs).status ≡ None → GoOn program plan xs
  goes_on [] more s runs run still = tt
  goes_on (x ∷ xs) more s runs run still =
      let next : (act program plan s x.taken.answer).status ≡ None = runs_before program plan s x xs still in (
        ap status_of run.0 ∙ sym (status_after program plan x.taken.answer s runs) ∙ next,
        goes_on xs more (act program plan s x.taken.answer) next run.3 still,
      )

  -- the run goes on after the first steps
  rest_runs : (xs more : List Moment) (s : Proc) → IsRun program plan s (xs ++ more) → IsRun program plan (after_all program plan s xs) more
  rest_runs [] more s run = run
  rest_runs (x ∷ xs) more s run = rest_runs xs more (act program plan s x.taken.answer) run.3

  -- a process that synchronizes runs
  syncs_running : (s : Proc) → is_some (kind_of_sync (need_of program plan s)) ≡ true → s.status ≡ None
  syncs_running s e = by s.status refl
    where
      by : (o : Option Status) → s.status ≡ o → s.status ≡ None
      by None is = is
      by (Some x) is = absurd (true≢false (sym e ∙ ap (λ n. is_some (kind_of_sync n)) (ap (λ o. need_by_status program plan o s) is)))

module _ (program : Program) (policy : Policy) (budget : ℕ) (h : List ℕ) (p i : ℕ) (v : IsValid program) (whole : IsWhole (setting_by program policy budget) h)
    (ends : EndsEdge (setting_by program policy budget) h p i) (clear : (e : ℕ) → e ≤ i → IsUnracedIn (setting_by program policy budget) h p e) where
  abbrev plan : Plan
  plan = plan_of program policy

  abbrev before : List Moment
  before = ms program policy budget h p i v whole ends clear

  abbrev it : Moment
  it = m program policy budget h p i v whole ends clear

  abbrev start : Proc
  start = s0 program policy budget h p i v whole ends clear

  pub later : (xs : List Moment) × (get_or (told (setting_of program plan budget) (g program policy budget h p i v whole ends clear ++ ends.rest)).moments p []
      ≡ get_or (told (setting_of program plan budget) (g program policy budget h p i v whole ends clear)).moments p [] ++ xs)
  later = moments_grow (setting_of program plan budget) ends.rest (g program policy budget h p i v whole ends clear) p

  all : get_or (told (setting_of program plan budget) h).moments p [] ≡ before ++ it ∷ later.0
  all =
      ap (λ l. get_or (told (setting_of program plan budget) l).moments p []) ends.schedule_is ∙ later.1
      ∙ ap (λ z. z ++ later.0) (more program policy budget h p i v whole ends clear) ∙ append_assoc before (it ∷ []) later.0

  still : (after_all program plan start before).status ≡ None
  still =
      syncs_running program plan (after_all program plan start before)
      (ap (λ n. is_some (kind_of_sync n)) (need_is program policy budget h p i v whole ends clear) ∙ sync_need it.taken ends.is_sync)

  abbrev it_runs : IsRun program plan start (before ++ it ∷ later.0)
  it_runs = subst (IsRun program plan start) all (schedules_run (setting_of program plan budget) h p v whole (there program policy budget h p i v whole ends clear))

  -- where the synchronization is an offer, no unit comes next
  next : unit_started it.taken.need ≡ None → is_unit (slice_get (tail program plan (log_step program plan (log_of (setting_of program plan budget) p before) it) later.0) 0) ≡ false
  next none =
      let rest = rest_runs program plan before (it ∷ later.0) start it_runs in
      let state : (log_of (setting_of program plan budget) p before).proc ≡ after_all program plan start before = log_proc (setting_of program plan budget) before (begun_log (setting_of program plan budget) p) in
      let after : (log_step program plan (log_of (setting_of program plan budget) p before) it).proc ≡ act program plan (after_all program plan start before) it.taken.answer = ap (λ s. act program plan s it.taken.answer) state in
      no_unit program plan (after_all program plan start before) it (log_step program plan (log_of (setting_of program plan budget) p before) it) later.0 (sync_need it.taken ends.is_sync) rest.0 after
      (subst (λ s. IsRun program plan s later.0) (sym after) rest.3) none

  -- the cut of the whole log
  pub cut_of_log : cut (Some i) (closed_log (log_of (setting_of program plan budget) p (get_or (told (setting_of program plan budget) h).moments p []))) ≡ cut_log program policy budget h p i v whole ends clear
  cut_of_log =
      ap (λ xs. cut (Some i) (closed_log (log_of (setting_of program plan budget) p xs))) all
      ∙ cut_is (setting_of program plan budget) p before it later.0 i ends.is_sync (sym (ap length (own_syncs_are (setting_of program plan budget) ends.before p)) ∙ ends.edge_is)
      (goes_on program plan before (it ∷ later.0) start refl it_runs still) next
      ∙ ap (λ (l : Logging). l.entries ++ stop ∷ []) (sym (kept_is program policy budget h p i v whole ends clear))
