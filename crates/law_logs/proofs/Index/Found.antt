-- The index of the logs of a whole schedule is never refused.
use Rattle.ppd_model.specs.Setting.{setting_of}
use Rattle.law_logs.proofs.Index.OfKind.{own_fits}
use Rattle.law_logs.proofs.Index.Passing.{logged, more, pass}
use Rattle.law_logs.proofs.Index.Standing.{Stands, after_prelog, after_unit}
use Rattle.law_logs.proofs.Index.Started.{begun_under, under_there, unit_fits}
use Rattle.law_logs.proofs.Index.Tested.{IsFit, fit_unit, fits_by, one_more}
use Rattle.law_logs.proofs.Index.Valued.{AreValued, all_valued}
use Rattle.law_logs.specs.Index.Accepted.{LogsOfRunsAreIndexed}
use Rattle.law_steps.proofs.OpenBlocks.Runs.{schedules_run}
use Rattle.law_steps.proofs.OpenBlocks.Stacks.{steps_move}
use Rattle.law_steps.proofs.OpenBlocks.Told.{moments_length}
use Rattle.law_steps.specs.OpenBlocks.Run.{IsRun}
use Rattle.law_steps.specs.OpenBlocks.Stack.{IsInOrder, process_block}
use Rattle.ppd_ast.specs.Valid.{IsValid}
use Rattle.ppd_ast.specs.declared.plan.Plan.{Plan}
use Rattle.ppd_ast.specs.declared.plan.Policy.{Policy}
use Rattle.ppd_ast.specs.declared.plan.Start.TheVariants as start
use Rattle.ppd_ast.specs.declared.program.Program.{Program}
use Rattle.ppd_blocks.specs.Blocks.{plan_of}
use Rattle.ppd_model.specs.IntervalLogs.{Indexing, begun_indexing, index_step}
use Rattle.ppd_model.specs.declared.entry.Entry.TheVariants as entry
use Rattle.ppd_index.specs.Refusals.{first_bad, first_in_lists, may_begin, standing}
use Rattle.ppd_model.proofs.LogWords.{logs_from}
use Rattle.ppd_model.proofs.Prefixes.{objects_stay}
use Rattle.ppd_model.specs.Logs.{begun_log, closed_log, log_of}
use Rattle.ppd_model.specs.Story.{Moment, told, values_of_unit}
use Rattle.ppd_sem.specs.Process.{started}
use Rattle.ppd_sem.specs.Tables.{unit_of}
use Rattle.std.proofs.Common.{List, None, [], ap, arith, eq-eqb, false, get_or, length, map, pos, refl, subst, suc, sym, ℕ, ◌+◌, ◌-◌, ◌<◌, ◌∙◌, ◌∷◌, ◌≡◌}
use Rattle.std.proofs.lemmas.List.{length-map}
use Rattle.std.specs.Option.{option_map_or, option_or}
use Rattle.std.specs.Prelude.{slice_get}

module _ (program : Program) (policy : Policy) (budget : ℕ) (v : IsValid program) where
  abbrev plan : Plan
  plan = plan_of program policy

  module _ (p : ℕ) (there : program.functions + p < length program.bodies) (ms : List Moment) (run : IsRun program plan (started program plan p budget) ms) (valued : AreValued plan ms) where
    abbrev body : ℕ
    body = program.functions + p

    abbrev own : ℕ
    own = process_block program plan p

    abbrev first_unit : ℕ
    first_unit = unit_of plan (start.Entry body)

    order : IsInOrder program plan p (started program plan p budget)
    order = steps_move.starts program plan p budget v there

    first_fit : IsFit plan body p begun_indexing (entry.Prelog own [])
    first_fit =
        fits_by plan body p begun_indexing (entry.Prelog own [])
        (ap (may_begin body (standing plan begun_indexing false)) (own_fits program policy v p there).1.1 ∙ eq-eqb body body refl) (own_fits program policy v p there).0

    inside : Stands plan (index_step begun_indexing (entry.Prelog own [])) (own ∷ [])
    inside = after_prelog plan begun_indexing [] own [] refl tt tt

    process_passes : first_bad program plan p (closed_log (log_of (setting_of program plan budget) p ms)) ≡ None
    process_passes =
        let values = values_of_unit plan program.starts first_unit in
        let found = under_there program policy v first_unit (started program plan p budget) (begun_under program policy v p budget) (order.until_end refl) in
        let x : Indexing = index_step begun_indexing (entry.Prelog own []) in
        let y : Indexing = index_step x (entry.Unit first_unit values) in
        ap (λ es. first_bad program plan p es) (logged program policy v p there ms (begun_log (setting_of program plan budget) p))
        ∙ one_more plan body p begun_indexing (entry.Prelog own []) (entry.Unit first_unit values ∷ more program policy v p there (begun_log (setting_of program plan budget) p) ms) first_fit refl
        (one_more plan body p x (entry.Unit first_unit values) (more program policy v p there (begun_log (setting_of program plan budget) p) ms)
        (fit_unit plan body p x own [] inside first_unit values
        (unit_fits program policy v first_unit found.0 values found.1 (length-map (option_map_or (λ u. u.cells) (slice_get plan.units first_unit) []) (λ c. get_or program.starts c (pos 0))))) refl
        (pass program policy v p there ms (begun_log (setting_of program plan budget) p) y first_unit order refl run valued (begun_under program policy v p budget)
        (subst (Stands plan y) (sym (steps_move.alone program plan p budget v)) (after_unit plan x first_unit values (own ∷ []) inside))))

  -- one process after the other
  lists_pass : (q : ℕ) (moments : List (List Moment)) → ((i : ℕ) → i < length moments → first_bad program plan (q + i) (closed_log (log_of (setting_of program plan budget) (q + i) (get_or moments i []))) ≡ None)
      → first_in_lists program plan q (map closed_log (logs_from (setting_of program plan budget) q moments)) ≡ None
  lists_pass q [] each = refl
  lists_pass q (ms ∷ rest) each =
      let z : q + 0 ≡ q = omega arith in
      let first : first_bad program plan q (closed_log (log_of (setting_of program plan budget) q ms)) ≡ None =
      subst (λ k. first_bad program plan k (closed_log (log_of (setting_of program plan budget) k ms)) ≡ None) z (each 0 (omega arith)) in
      ap (λ o. option_or o (first_in_lists program plan (q + 1) (map closed_log (logs_from (setting_of program plan budget) (q + 1) rest)))) first
      ∙ lists_pass (q + 1) rest
      (λ i lt. (let same : q + suc i ≡ q + 1 + i = omega arith in
      subst (λ k. first_bad program plan k (closed_log (log_of (setting_of program plan budget) k (get_or rest i []))) ≡ None) same (each (suc i) (omega (arith, lt)))))

pub logs_indexed : LogsOfRunsAreIndexed
logs_indexed program policy budget h v whole =
    let plan : Plan = plan_of program policy in
    lists_pass program policy budget v 0 (told (setting_of program plan budget) h).moments
    (λ i lt.
    (let many : length (told (setting_of program plan budget) h).world.procs ≡ length program.bodies - program.functions = (objects_stay (setting_of program plan budget) h).processes in
    let there : program.functions + i < length program.bodies = omega (arith, lt, moments_length (setting_of program plan budget) h, many) in
    let zero_is : 0 + i ≡ i = omega arith in
    subst (λ k. first_bad program plan k (closed_log (log_of (setting_of program plan budget) k (get_or (told (setting_of program plan budget) h).moments i []))) ≡ None) (sym zero_is)
    (process_passes program policy budget v i there (get_or (told (setting_of program plan budget) h).moments i []) (schedules_run (setting_of program plan budget) h i v whole there) (all_valued program plan budget h i))))
