-- The log of each interval is that of its opening.
use Rattle.ppd_model.specs.Setting.{Setting, setting_of}
use Rattle.std.proofs.Common.{◌≡◌, ℕ, zero, suc, ◌+◌, ◌-◌, ◌<◌, List, [], ◌∷◌, length, fold, Some, refl, ap, sym, ◌∙◌, subst, arith}
use Rattle.std.specs.Prelude.{slice_get, get_or}
use Rattle.std.proofs.lemmas.List.{length-map}
use Rattle.std.proofs.lemmas.Option.{get_or_from_slice_get}
use Rattle.ppd_ast.specs.declared.plan.Plan.{Plan}
use Rattle.ppd_ast.specs.declared.plan.Policy.{Policy}
use Rattle.ppd_ast.specs.declared.program.Program.{Program}
use Rattle.ppd_ast.specs.Valid.{IsValid}
use Rattle.law_steps.specs.Blocks.{plan_of}
use Rattle.ppd_model.specs.IntervalLogs.{LoggedInterval}
use Rattle.ppd_model.proofs.EntryWords.{no_interval}
use Rattle.ppd_sem.specs.Process.{started}
use Rattle.ppd_model.specs.Logs.{begun_log}
use Rattle.ppd_model.specs.Schedule.{started_world}
use Rattle.ppd_model.specs.Story.{Moment, Telling, begun, tell, told}
use Rattle.ppd_model.proofs.Bounded.{started_count}
use Rattle.ppd_model.proofs.Changes.{length-change}
use Rattle.law_steps.specs.OpenBlocks.Run.{IsRun}
use Rattle.law_steps.specs.OpenBlocks.Stack.{IsInOrder, block_frames, functions_in, process_block, stack}
use Rattle.law_steps.proofs.OpenBlocks.Runs.{schedules_run}
use Rattle.law_steps.proofs.OpenBlocks.Stacks.{steps_move}
use Rattle.law_steps.specs.Coming.Openings.{LogsAreComing, Opening, opening_of}
use Rattle.law_steps.proofs.Coming.Depths.{AreDeep, blocks_at, final_blocks}
use Rattle.law_steps.proofs.Coming.DeepOpenings.{deep_openings, frames_in}
use Rattle.law_steps.proofs.Coming.LogsNested.{AreDeepAt, begun_index, ended_index, logs_nested}
use Rattle.law_steps.proofs.Coming.Stacked.{nested}

module _ (setting : Setting) where
  told_length : (h : List ℕ) (t : Telling) → length (fold (tell setting.program setting.plan) t h).moments ≡ length t.moments
  told_length [] t = refl
  told_length (p ∷ h) t = told_length h (tell setting.program setting.plan t p) ∙ length-change _ p t.moments

  -- as many processes are told of as there are
  pub how_many : (h : List ℕ) → length (told setting h).moments ≡ length setting.program.bodies - setting.program.functions
  how_many h = told_length h (begun (started_world setting)) ∙ length-map
      (started_world setting).procs (λ _. []) ∙ started_count setting 0
      (length setting.program.bodies - setting.program.functions)

module _ (program : Program) (policy : Policy) (budget p : ℕ) (v : IsValid program)
    (there : program.functions + p < length program.bodies) (ms : List Moment)
    (run : IsRun program (plan_of program policy) (started program (plan_of program policy) p budget) ms) where
  abbrev plan : Plan
  plan = plan_of program policy

  order : IsInOrder program plan p (started program plan p budget)
  order = steps_move.starts program plan p budget v there

  alone : stack program plan p (started program plan p budget) ≡ process_block program plan p ∷ []
  alone = steps_move.alone program plan p budget v

  all_deep : AreDeep (begun_index (setting_of program plan budget) p).intervals (begun_index (setting_of program plan budget) p).running
      (stack program plan p (started program plan p budget))
  all_deep = subst (AreDeep (begun_index (setting_of program plan budget) p).intervals (0 ∷ [])) (sym alone) (refl, tt)

  deep_at : (k : ℕ) (o : Opening) → opening_of (setting_of program plan budget) p ms k ≡ Some o
      → functions_in plan (blocks_at (ended_index (setting_of program plan budget) p ms).intervals k) ≡ block_frames plan o.proc.frames
  deep_at zero o e =
      let one : 0 < 1 = omega arith in
      ap (functions_in plan)
      (final_blocks program plan ms (begun_log (setting_of program plan budget) p) (begun_index (setting_of program plan budget) p) 0 one ∙ sym alone)
      ∙ steps_move.depth program policy p (started program plan p budget) v there order
      ∙ ap (λ z. block_frames plan (frames_in z)) e
  deep_at (suc q) o e =
      let one : 0 < 1 = omega arith in
      let same : 1 + q ≡ suc q = omega arith in
      subst (λ k. functions_in plan (blocks_at (ended_index (setting_of program plan budget) p ms).intervals k) ≡ block_frames plan o.proc.frames) same
      (deep_openings program policy v p there ms (begun_log (setting_of program plan budget) p)
      (begun_index (setting_of program plan budget) p) order refl run (one, tt) all_deep q o e)

  depths : (k : ℕ) → AreDeepAt (setting_of program plan budget) (opening_of (setting_of program plan budget) p ms k)
      (slice_get (ended_index (setting_of program plan budget) p ms).intervals k)
  depths k o i e there' =
      ap (λ (z : LoggedInterval). functions_in plan z.blocks)
      (sym (get_or_from_slice_get (ended_index (setting_of program plan budget) p ms).intervals k i no_interval there'))
      ∙ deep_at k o e

pub logs_are_coming : LogsAreComing
logs_are_coming program policy budget h p k v whole there =
    let plan : Plan = plan_of program policy in
    let ms : List Moment = get_or (told (setting_of program plan budget) h).moments p [] in
    let run : IsRun program plan (started program plan p budget) ms =
    schedules_run (setting_of program plan budget) h p v whole there in
    let count : length (told (setting_of program plan budget) h).moments ≡ length program.bodies - program.functions =
    how_many (setting_of program plan budget) h in
    let one : length (stack program plan p (started program plan p budget)) ≡ 1 =
    ap length (steps_move.alone program plan p budget v) in
    logs_nested (setting_of program plan budget) h p k (omega (arith, count, there))
    (nested program plan v p ms (started program plan p budget) 1
    (steps_move.starts program plan p budget v there) refl run one)
    (depths program policy budget p v there ms run k)
