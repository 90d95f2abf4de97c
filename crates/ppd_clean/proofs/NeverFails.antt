-- No replay of a log of a whole run fails that is cut where no race was.
use Rattle.law_steps.specs.Policies.{setting_by}
use Rattle.ppd_model.specs.Setting.{Setting, setting_of}
use Rattle.std.proofs.Common.{◌≡◌, ℕ, zero, suc, ◌+◌, ◌<◌, ◌≤◌, List, [], ◌∷◌, ◌++◌, length, map, Option, Some, None, refl, ap, sym, subst, ◌∙◌, arith, append-nil, get_or, length-append, inl, inr}
use Rattle.std.proofs.lemmas.Bool.{cases_lt}
use Rattle.std.proofs.lemmas.Option.{none-some, slice_get-map}
use Rattle.std.specs.Prelude.{option_map, option_to_list, slice_get, ⊤, filter_map}
use Rattle.law_clean.specs.Cuts.{cut, stop}
use Rattle.law_clean.specs.Ordered.{AreUnracedReads, IsUnracedIn}
use Rattle.law_clean.proofs.CutEdges.{replays_of_cut}
use Rattle.law_clean.proofs.CutIs.{log_tail}
use Rattle.law_clean.proofs.CutLogs.{cut_of_log}
use Rattle.law_clean.proofs.CutRuns.{cut_replays}
use Rattle.law_clean.proofs.CutSeen.{logging_at}
use Rattle.law_clean.proofs.EdgeEnds.{EndsEdge, edge_ends, edge_own}
use Rattle.law_clean.proofs.Reached.{closed_syncs, syncs_in_log}
use Rattle.law_clean.proofs.ReadsAnswered.{unraced_reads}
use Rattle.law_clean.proofs.Replays.{replays_alike}
use Rattle.law_clean.proofs.SeenCut.{has_split, one_of, stays_whole}
use Rattle.law_flow.proofs.Places.LeafTells.{split_is}
use Rattle.law_flow.proofs.Edges.Sources.LastOrigins.{split_there}
use Rattle.law_flow.proofs.Edges.StepEvents.Timeline.{none_did}
use Rattle.law_flow.proofs.Edges.StepEvents.Writers.{edge_is_count}
use Rattle.law_steps.specs.InForce.Values.{AreRead, begun_in_force}
use Rattle.law_steps.specs.Theorem.Laws.{modelled_of}
use Rattle.law_steps.proofs.Theorem.Processes.{process_there}
use Rattle.law_steps.proofs.OpenBlocks.Runs.{schedules_run}
use Rattle.law_steps.proofs.OpenBlocks.Told.{own_steps_are}
use Rattle.ppd_ast.specs.Valid.{IsValid}
use Rattle.ppd_ast.specs.declared.plan.Plan.{Plan}
use Rattle.ppd_ast.specs.declared.plan.Policy.{Policy}
use Rattle.ppd_ast.specs.declared.program.Program.{Program}
use Rattle.ppd_blocks.specs.Blocks.{plan_of}
use Rattle.ppd_model.specs.declared.entry.Entry.{Entry}
use Rattle.ppd_model.specs.declared.entry.Entry.TheVariants as entry
use Rattle.ppd_ast.specs.declared.status.Status.TheVariants as status
use Rattle.ppd_flow_past.specs.SeenBy.{failed_at}
use Rattle.ppd_model.specs.declared.state.Logging.{Logging}
use Rattle.ppd_model.specs.Forward.{edge_in}
use Rattle.ppd_model.specs.Intervals.{Span, Split, split_of, splits}
use Rattle.ppd_model.specs.Logs.{begun_log, closed_log, closed_logs, log_of}
use Rattle.ppd_model.proofs.LogWords.{logs_from}
use Rattle.ppd_model.specs.Schedule.{IsWhole, run, started_world}
use Rattle.ppd_model.specs.Story.{Moment, moment_of, steps_of, story, told}
use Rattle.ppd_model.specs.Synchronizations.{sync_of}
use Rattle.ppd_model.proofs.Changes.{some}
use Rattle.ppd_model.proofs.Forward.{fewer}
use Rattle.ppd_sem.specs.declared.proc.Proc.{Proc}
use Rattle.ppd_flow_past.proofs.SeenWords.{failure_of}
use Rattle.law_clean.proofs.PastWords.{cut_from}

no_failure : (x : Split) (o : Option Span) → failure_of (modelled_of x o) ≡ None
no_failure x None = refl
no_failure x (Some i) = refl

nothing : (procs : List Proc) (q : ℕ) → get_or (map {B = List Moment} (λ _. []) procs) q [] ≡ []
nothing [] q = refl
nothing (s ∷ ss) zero = refl
nothing (s ∷ ss) (suc q) = nothing ss q

nothing_after : (m : List ℕ) (p : ℕ) (more : List ℕ) → [] ≡ m ++ p ∷ more → ⊥
nothing_after m p more e = let z : 0 ≡ length m + suc (length more) = ap length e ∙ length-append m (p ∷ more) in omega (arith, z)

module _ (program : Program) (policy : Policy) (budget : ℕ) (h : List ℕ) (v : IsValid program) (whole : IsWhole (setting_by program policy budget) h) (q : ℕ) where
  abbrev plan : Plan
  plan = plan_of program policy

  abbrev own_log : List Entry
  own_log = closed_log (log_of (setting_of program plan budget) q (get_or (told (setting_of program plan budget) h).moments q []))

  -- ---- where a synchronization ends the last edge

  ended_never : (i : ℕ) → i < edge_in (setting_of program plan budget) h q → ((e : ℕ) → e ≤ i → IsUnracedIn (setting_of program plan budget) h q e) → (k : ℕ)
      → failed_at (setting_of program plan budget) (cut (Some i) own_log) k ≡ None
  ended_never i ended clear k =
      let none : edge_in (setting_of program plan budget) [] q ≡ 0 = edge_is_count (setting_of program plan budget) [] q ∙ ap (λ ts. length (filter_map sync_of ts)) (none_did program plan budget q) in
      let ends : EndsEdge (setting_of program plan budget) h q i = edge_ends (setting_of program plan budget) h q i ended none in
      let g : List ℕ = ends.before ++ q ∷ [] in
      let more : length (option_to_list (sync_of (moment_of program plan (told (setting_of program plan budget) ends.before) q).taken)) ≡ 1 = one_of (sync_of (moment_of program plan (told (setting_of program plan budget) ends.before) q).taken) ends.is_sync in
      let grew : edge_in (setting_of program plan budget) g q ≡ edge_in (setting_of program plan budget) ends.before q + length (option_to_list (sync_of (moment_of program plan (told (setting_of program plan budget) ends.before) q).taken)) =
      edge_own (setting_of program plan budget) ends.before q ends.there in
      let is : edge_in (setting_of program plan budget) ends.before q ≡ i = ends.edge_is in
      let x = has_split (setting_of program plan budget) g q i (omega (arith, grew, more, is)) in
      ap (λ es. failed_at (setting_of program plan budget) es k) (cut_of_log program policy budget h q i v whole ends clear)
      ∙ ap failure_of (replays_of_cut program policy budget h q i v whole ends clear x.0 x.1 k) ∙ no_failure x.0 (slice_get x.0.spans k)

  -- ---- where none does, and the log stays whole

  module _ (y : Split) (at : slice_get (splits (setting_by program policy budget) (story (setting_by program policy budget) h)) q ≡ Some y) where
    there : program.functions + q < length program.bodies
    there = process_there (setting_of program plan budget) h q y at

    module _ (clear : (e : ℕ) → e ≤ edge_in (setting_by program policy budget) h q → IsUnracedIn (setting_by program policy budget) h q e) where
      h_is : h ++ [] ≡ h
      h_is = append-nil h

      runs : run (setting_of program plan budget) (h ++ []) ≡ Some whole.last
      runs = subst (λ l. run (setting_of program plan budget) l ≡ Some whole.last) (sym h_is) whole.runs

      reads_clear : AreUnracedReads (setting_of program plan budget) h (h ++ []) q
      reads_clear b more c is reads =
          subst (λ l. IsUnracedIn (setting_of program plan budget) l q (edge_in (setting_of program plan budget) b q)) (sym h_is)
          (clear (edge_in (setting_of program plan budget) b q)
          (let up : edge_in (setting_of program plan budget) b q ≤ edge_in (setting_of program plan budget) (b ++ q ∷ more) q = fewer (setting_of program plan budget) b (q ∷ more) whole.last (subst (λ l. run (setting_of program plan budget) l ≡ Some whole.last) is whole.runs) q in
          subst (λ l. edge_in (setting_of program plan budget) b q ≤ edge_in (setting_of program plan budget) l q) (sym is) up))

      reads : AreRead plan (begun_in_force program plan q) (get_or (told (setting_of program plan budget) h).moments q [])
      reads = unraced_reads program policy budget h [] whole.last q v runs reads_clear

      whole_never : (k : ℕ) → failed_at (setting_of program plan budget) own_log k ≡ None
      whole_never k =
          ap failure_of (replays_alike program policy v budget q 0 (omega arith) there (get_or (told (setting_of program plan budget) h).moments q []) (schedules_run (setting_of program plan budget) h q v whole there) (story (setting_of program plan budget) h) reads k
          ∙ ap (λ (z : Split). modelled_of z (slice_get z.spans k)) (ap (split_of (setting_of program plan budget) (story (setting_of program plan budget) h) q) (sym (own_steps_are (setting_of program plan budget) h q)) ∙ split_is (setting_of program plan budget) h q y at))
          ∙ no_failure y (slice_get y.spans k)

    -- ---- where no edge is wanted

    none_yet : get_or (told (setting_of program plan budget) []).moments q [] ≡ []
    none_yet = nothing (started_world (setting_of program plan budget)).procs q

    begun : Logging
    begun = begun_log (setting_of program plan budget) q

    start_is : cut None own_log ≡ (begun_log (setting_of program plan budget) q).entries ++ stop ∷ []
    start_is = ap (λ es. cut None es) (log_tail program plan (get_or (told (setting_of program plan budget) h).moments q []) (begun_log (setting_of program plan budget) q))

    begun_reads : AreUnracedReads (setting_of program plan budget) [] ([] ++ h) q
    begun_reads b more c is read = absurd (nothing_after b q more is)

    begun_never : (k : ℕ) → failed_at (setting_of program plan budget) (cut None own_log) k ≡ None
    begun_never k =
        let l_is : log_of (setting_of program plan budget) q (get_or (told (setting_of program plan budget) []).moments q []) ≡ begun_log (setting_of program plan budget) q = ap (log_of (setting_of program plan budget) q) none_yet in
        ap (λ es. failed_at (setting_of program plan budget) es k) (start_is ∙ ap (λ (l : Logging). l.entries ++ entry.End status.Budget l.rest l.reads l.writes ∷ []) (sym l_is))
        ∙ ap failure_of (cut_replays program policy budget [] h q v whole there (ap (λ (l : Logging). l.proc.status) l_is) begun_reads (story (setting_of program plan budget) []) k)
        ∙ no_failure (split_of (setting_of program plan budget) (story (setting_of program plan budget) []) q (steps_of (get_or (told (setting_of program plan budget) []).moments q [])))
        (slice_get (split_of (setting_of program plan budget) (story (setting_of program plan budget) []) q (steps_of (get_or (told (setting_of program plan budget) []).moments q []))).spans k)

    -- ---- all of them

    -- no race has an edge of the process up to the last wanted one
    abbrev pub IsClear : Option ℕ → Type 0
    IsClear None = ⊤
    IsClear (Some i) = (e : ℕ) → e ≤ i → e ≤ edge_in (setting_by program policy budget) h q → IsUnracedIn (setting_by program policy budget) h q e

    cut_never : (o : Option ℕ) → IsClear o → (k : ℕ) → failed_at (setting_of program plan budget) (cut o own_log) k ≡ None
    cut_never None clear k = begun_never k
    cut_never (Some i) clear k = elim (cases_lt i (edge_in (setting_of program plan budget) h q)) [
      | inl lt ↦ ended_never i lt (λ e le. clear e le (omega (arith, le, lt))) k
      | inr ge ↦
          let many = closed_syncs (log_of (setting_of program plan budget) q (get_or (told (setting_of program plan budget) h).moments q [])) in
          let all = syncs_in_log (setting_of program plan budget) h q in
          ap (λ es. failed_at (setting_of program plan budget) es k) (stays_whole i own_log (omega (arith, many, all, ge)))
          ∙ whole_never (λ e le. clear e (omega (arith, le, ge)) le) k
    ]

-- ---- of logs

abbrev cut_if : Option ℕ → Option (List Entry) → List Entry
cut_if o None = []
cut_if o (Some es) = cut o es

cut_at_process : (last : ℕ → Option ℕ) (p : ℕ) (lists : List (List Entry)) (q : ℕ) → get_or (cut_from last p lists) q [] ≡ cut_if (last (p + q)) (slice_get lists q)
cut_at_process last p [] q = refl
cut_at_process last p (es ∷ lists) zero = let z : p ≡ p + 0 = omega arith in ap (λ k. cut (last k) es) z
cut_at_process last p (es ∷ lists) (suc q) =
    let z : (p + 1) + q ≡ p + suc q = omega arith in
    cut_at_process last (p + 1) lists q ∙ ap (λ k. cut_if (last k) (slice_get lists q)) z

there_below : (setting : Setting) (k : ℕ) (ms : List (List Moment)) (q : ℕ) (es : List Entry) → slice_get (map closed_log (logs_from setting k ms)) q ≡ Some es → q < length ms
there_below setting k [] q es e = absurd (none-some es e)
there_below setting k (m ∷ ms) zero es e = omega arith
there_below setting k (m ∷ ms) (suc q) es e = let r : q < length ms = there_below setting (k + 1) ms q es e in omega (arith, r)

module _ (program : Program) (policy : Policy) (budget : ℕ) (h : List ℕ) (v : IsValid program) (whole : IsWhole (setting_by program policy budget) h) (last : ℕ → Option ℕ) where
  abbrev all_plan : Plan
  all_plan = plan_of program policy

  abbrev lists : List (List Entry)
  lists = (closed_logs (setting_by program policy budget) h).lists

  -- where no race has an edge up to the last wanted one
  pub cuts_never : ((q : ℕ) (y : Split) (at : slice_get (splits (setting_by program policy budget) (story (setting_by program policy budget) h)) q ≡ Some y) → IsClear program policy budget h v whole q y at (last q))
      → (q k : ℕ) → failed_at (setting_by program policy budget) (get_or (cut_from last 0 (closed_logs (setting_by program policy budget) h).lists) q []) k ≡ None
  cuts_never clear q k =
      let z : 0 + q ≡ q = omega arith in
      ap (λ es. failed_at (setting_of program all_plan budget) es k) (cut_at_process last 0 lists q ∙ ap (λ n. cut_if (last n) (slice_get lists q)) z) ∙ by (slice_get lists q) refl
    where
      by : (o : Option (List Entry)) → slice_get lists q ≡ o → failed_at (setting_of program all_plan budget) (cut_if (last q) o) k ≡ None
      by None e = refl
      by (Some es) e =
          let lt : q < length (told (setting_of program all_plan budget) h).moments = there_below (setting_of program all_plan budget) 0 (told (setting_of program all_plan budget) h).moments q es e in
          let y = split_there (setting_of program all_plan budget) (story (setting_of program all_plan budget) h) 0 (told (setting_of program all_plan budget) h).moments q lt in
          let z : 0 + q ≡ q = omega arith in
          let listed : slice_get lists q ≡ Some (closed_log (log_of (setting_of program all_plan budget) q (get_or (told (setting_of program all_plan budget) h).moments q []))) =
          slice_get-map closed_log (logs_from (setting_of program all_plan budget) 0 (told (setting_of program all_plan budget) h).moments) q
          ∙ ap (option_map closed_log) (logging_at (setting_of program all_plan budget) (story (setting_of program all_plan budget) h) 0 (told (setting_of program all_plan budget) h).moments q y.0 y.1
          ∙ ap (λ n. Some (log_of (setting_of program all_plan budget) n (get_or (told (setting_of program all_plan budget) h).moments q []))) z) in
          let is : es ≡ closed_log (log_of (setting_of program all_plan budget) q (get_or (told (setting_of program all_plan budget) h).moments q [])) = some (sym e ∙ listed) in
          ap (λ xs. failed_at (setting_of program all_plan budget) (cut (last q) xs) k) is
          ∙ cut_never program policy budget h v whole q y.0 y.1 (last q) (clear q y.0 y.1) k
