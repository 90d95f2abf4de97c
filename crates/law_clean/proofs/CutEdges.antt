-- In a whole schedule with races, the log of a process is cut after the synchronization that ends an edge, and no race
-- has this edge or one before it: then each interval is replayed to what it has by then.
use Rattle.law_steps.specs.Policies.{setting_by}
use Rattle.ppd_model.specs.Setting.{setting_of}
use Rattle.std.proofs.Common.{◌≡◌, ℕ, suc, ◌+◌, ◌-◌, ◌<◌, ◌≤◌, List, [], ◌∷◌, ◌++◌, Some, None, refl, ap, sym, subst, ◌∙◌, arith, length, inl, inr, length-append}
use Rattle.std.proofs.lemmas.List.Sums.{fold-append}
use Rattle.std.specs.Prelude.{fold, is_some, slice_get, get_or}
use Rattle.ppd_ast.specs.declared.plan.Plan.{Plan}
use Rattle.ppd_ast.specs.declared.plan.Policy.{Policy}
use Rattle.ppd_ast.specs.declared.program.Program.{Program}
use Rattle.ppd_ast.specs.declared.status.Status.TheVariants as status
use Rattle.ppd_ast.specs.Valid.{IsValid}
use Rattle.ppd_blocks.specs.Blocks.{plan_of}
use Rattle.ppd_model.specs.declared.entry.Entry.{Entry}
use Rattle.ppd_model.specs.declared.entry.Entry.TheVariants as entry
use Rattle.ppd_model.specs.IntervalLogs.{interval_log}
use Rattle.ppd_sem.specs.declared.proc.Proc.{Proc}
use Rattle.ppd_sem.specs.Process.{act, need_of, started}
use Rattle.ppd_model.specs.declared.state.Logging.{Logging}
use Rattle.ppd_model.specs.Forward.{edge_in}
use Rattle.ppd_model.specs.Intervals.{Split, splits}
use Rattle.ppd_model.specs.Logs.{begun_log, log_of, log_step}
use Rattle.ppd_model.specs.Schedule.{IsWhole, run, started_world}
use Rattle.ppd_model.specs.States.{act_on}
use Rattle.ppd_model.specs.Story.{Moment, moment_of, steps_of, story, told}
use Rattle.ppd_model.specs.Synchronizations.{kind_of_sync}
use Rattle.ppd_model.specs.World.{World}
use Rattle.ppd_model.proofs.WorldWords.{need_at}
use Rattle.ppd_model.proofs.Forward.{fewer, run_begins}
use Rattle.ppd_model.proofs.Prefixes.{objects_stay}
use Rattle.law_steps.proofs.OpenBlocks.Runs.{process_is}
use Rattle.law_steps.proofs.OpenBlocks.Told.{own_more}
use Rattle.law_steps.specs.Theorem.Laws.{modelled_of, replay_of}
use Rattle.law_clean.specs.Cuts.{stop}
use Rattle.law_clean.specs.Ordered.{AreUnracedReads, IsUnracedIn}
use Rattle.law_clean.proofs.CutRuns.{cut_gives, log_proc}
use Rattle.law_clean.proofs.EdgeEnds.{EndsEdge, IsFresh, sync_need, synced_fresh, synced_runs}
use Rattle.law_clean.proofs.Found.{compare}
use Rattle.law_clean.proofs.Stopped.{after_all}

nothing_after : (m : List ℕ) (p : ℕ) (more : List ℕ) → [] ≡ m ++ p ∷ more → ⊥
nothing_after m p more e = let z : 0 ≡ length m + suc (length more) = ap length e ∙ length-append m (p ∷ more) in omega (arith, z)

module _ (program : Program) (policy : Policy) (budget : ℕ) (h : List ℕ) (p i : ℕ) (v : IsValid program) (whole : IsWhole (setting_by program policy budget) h)
    (ends : EndsEdge (setting_by program policy budget) h p i) (clear : (e : ℕ) → e ≤ i → IsUnracedIn (setting_by program policy budget) h p e) where
  abbrev plan : Plan
  plan = plan_of program policy

  abbrev pub g : List ℕ
  g = ends.before ++ p ∷ []

  abbrev pub ms : List Moment
  ms = get_or (told (setting_of program plan budget) ends.before).moments p []

  abbrev pub m : Moment
  m = moment_of program plan (told (setting_of program plan budget) ends.before) p

  abbrev pub s0 : Proc
  s0 = started program plan p budget

  pub there : program.functions + p < length program.bodies
  there =
      let below : p < length (told (setting_of program plan budget) ends.before).world.procs = ends.there in
      let many : length (told (setting_of program plan budget) ends.before).world.procs ≡ length program.bodies - program.functions = (objects_stay (setting_of program plan budget) ends.before).processes in
      omega (arith, below, many)

  whole' : IsWhole (setting_of program plan budget) (g ++ ends.rest)
  whole' = subst (IsWhole (setting_of program plan budget)) ends.schedule_is whole

  runs_before : (w : World) × (run (setting_of program plan budget) ends.before ≡ Some w)
  runs_before =
      let a = run_begins program plan (started_world (setting_of program plan budget)) g ends.rest whole'.last whole'.runs in
      run_begins program plan (started_world (setting_of program plan budget)) ends.before (p ∷ []) a.0 a.1

  -- ---- the process after g

  pub more : get_or (told (setting_of program plan budget) g).moments p [] ≡ ms ++ m ∷ []
  more = own_more (setting_of program plan budget) ends.before p ends.there

  same_state : (xs : List Moment) (s : Proc) → after_all program plan s xs ≡ fold (act_on program plan) s (steps_of xs)
  same_state [] s = refl
  same_state (x ∷ xs) s = same_state xs (act program plan s x.taken.answer)

  pub need_is : need_of program plan (after_all program plan s0 ms) ≡ m.taken.need
  need_is = ap (need_of program plan) (same_state ms s0) ∙ sym (ap (need_at program plan) (process_is program plan budget ends.before p there))

  abbrev pub kept : Logging
  kept = log_of (setting_of program plan budget) p (get_or (told (setting_of program plan budget) g).moments p [])

  pub kept_is : kept ≡ log_step program plan (log_of (setting_of program plan budget) p ms) m
  kept_is = ap (log_of (setting_of program plan budget) p) more ∙ fold-append (log_step program plan) (begun_log (setting_of program plan budget) p) ms (m ∷ [])

  fresh : IsFresh (setting_of program plan budget) kept
  fresh = subst (IsFresh (setting_of program plan budget)) (sym kept_is) (synced_fresh (setting_of program plan budget) (log_of (setting_of program plan budget) p ms) m ends.is_sync)

  pub runs_on : kept.proc.status ≡ None
  runs_on =
      ap (λ (l : Logging). l.proc.status) kept_is
      ∙ ap (λ (s : Proc). (act program plan s m.taken.answer).status) (log_proc (setting_of program plan budget) ms (begun_log (setting_of program plan budget) p))
      ∙ synced_runs (setting_of program plan budget) (after_all program plan s0 ms) m.taken.answer (ap (λ n. is_some (kind_of_sync n)) need_is ∙ sync_need m.taken ends.is_sync)

  -- ---- its reads

  reads_clear : AreUnracedReads (setting_of program plan budget) g (g ++ ends.rest) p
  reads_clear b after c at reads =
      subst (λ l. IsUnracedIn (setting_of program plan budget) l p (edge_in (setting_of program plan budget) b p)) ends.schedule_is
      (clear (edge_in (setting_of program plan budget) b p)
      (let is : edge_in (setting_of program plan budget) ends.before p ≡ i = ends.edge_is in
      elim (compare ends.before p [] b p after at) [
        | inl same ↦ (let e : edge_in (setting_of program plan budget) b p ≡ edge_in (setting_of program plan budget) ends.before p = ap (λ l. edge_in (setting_of program plan budget) l p) same.0 in omega (arith, e, is))
        | inr (inl x) ↦ absurd (nothing_after x.0 p after x.2)
        | inr (inr x) ↦
            let up : edge_in (setting_of program plan budget) b p ≤ edge_in (setting_of program plan budget) (b ++ p ∷ x.0) p =
            fewer (setting_of program plan budget) b (p ∷ x.0) runs_before.0 (subst (λ l. run (setting_of program plan budget) l ≡ Some runs_before.0) x.1 runs_before.1) p in
            let e : edge_in (setting_of program plan budget) ends.before p ≡ edge_in (setting_of program plan budget) (b ++ p ∷ x.0) p = ap (λ l. edge_in (setting_of program plan budget) l p) x.1 in
            omega (arith, up, e, is)
      ]))

  -- the log, cut after the synchronization and the unit that it starts
  abbrev pub cut_log : List Entry
  cut_log = kept.entries ++ stop ∷ []

  pub replays_of_cut : (x : Split) → slice_get (splits (setting_of program plan budget) (story (setting_of program plan budget) g)) p ≡ Some x
      → (k : ℕ) → replay_of (setting_of program plan budget) (interval_log plan cut_log k) ≡ modelled_of x (slice_get x.spans k)
  replays_of_cut x at k =
      let f = fresh in
      ap (λ e. replay_of (setting_of program plan budget) (interval_log plan (kept.entries ++ e ∷ []) k))
      (ap (λ n. entry.End status.Budget n [] []) (sym f.rest)
      ∙ ap (λ rs. entry.End status.Budget kept.rest rs []) (sym f.reads)
      ∙ ap (λ ws. entry.End status.Budget kept.rest kept.reads ws) (sym f.writes))
      ∙ cut_gives program policy budget g ends.rest p v whole' there runs_on reads_clear x at k
