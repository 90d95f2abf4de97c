-- What is told of the tags before each step of a process of a schedule.
use Rattle.law_steps.specs.Policies.{setting_by}
use Rattle.ppd_model.specs.Setting.{setting_of}
use Rattle.std.proofs.Common.{◌≡◌, ℕ, List, [], ◌∷◌, ◌++◌, Some, None, sym, subst}
use Rattle.std.specs.Prelude.{slice_get, get_or}
use Rattle.ppd_ast.specs.Valid.{IsValid}
use Rattle.ppd_ast.specs.declared.plan.Plan.{Plan}
use Rattle.ppd_ast.specs.declared.plan.Policy.{Policy}
use Rattle.ppd_ast.specs.declared.program.Program.{Program}
use Rattle.ppd_blocks.specs.Blocks.{plan_of}
use Rattle.law_steps.specs.OpenBlocks.Stack.{process_block}
use Rattle.ppd_sem.specs.Process.{started}
use Rattle.ppd_model.specs.Intervals.{Split, begun_split, split_of, splits}
use Rattle.ppd_model.specs.LocalTags.{AreOwn, HasTags}
use Rattle.ppd_model.specs.Story.{story}
use Rattle.ppd_model.specs.declared.tracing.Story.{Story}
use Rattle.ppd_model.specs.declared.tracing.Taken.{Taken}
use Rattle.ppd_model.proofs.Homes.{started-home}
use Rattle.ppd_model.proofs.LocalTags.{has_all, has_begun}
use Rattle.law_flow.proofs.Places.LeafTells.{all_whole, begins, later_at, levels_at, own_before, there}
use Rattle.law_flow.proofs.Locals.EachStep.{AtMoment, tells_all, tells_start}
use Rattle.law_flow.proofs.Locals.Reading.{trace_is}

module _ (program : Program) (policy : Policy) (budget : ℕ) (h : List ℕ) (p : ℕ) (y : Split) (v : IsValid program)
    (at : slice_get (splits (setting_by program policy budget)
    (story (setting_by program policy budget) h)) p ≡ Some y)
    (before : List Taken) (t : Taken) (after : List Taken)
    (steps : get_or (story (setting_by program policy budget) h).steps p [] ≡ before ++ t ∷ after) where
  abbrev plan : Plan
  plan = plan_of program policy

  abbrev s : Story
  s = story (setting_of program plan budget) h

  abbrev start : Split
  start = begun_split program plan p (started program plan p budget)

  owned : AreOwn program plan (started program plan p budget) before
  owned = own_before program policy budget h p y v at before (t ∷ after) steps

  tags : HasTags start.trace
  tags = has_begun (started program plan p budget).frames

  pub tagged_at : HasTags (split_of (setting_by program policy budget)
      (story (setting_by program policy budget) h) p before).trace
  tagged_at = subst HasTags (sym (trace_is program plan s p start before))
      (has_all program plan s p start.trace before tags owned)

  pub told_at : (split_of (setting_by program policy budget) (story (setting_by program policy budget) h) p
      before).trace.proc.status ≡ None
      → AtMoment program policy v (story (setting_by program policy budget) h) p y
      (all_whole program policy budget h p y v at) (there program policy budget h p y v at)
      (split_of (setting_by program policy budget) (story (setting_by program policy budget) h) p before)
      (levels_at program policy budget h p y v at before)
  told_at runs =
      let whole = all_whole program policy budget h p y v at in
      let there_is = there program policy budget h p y v at in
      tells_all program policy v s p y whole there_is start
      (record { interval = 0; block = process_block program plan p; parts = [] } ∷ []) before owned
      (later_at program policy budget h p y v at before (t ∷ after) steps) (begins program policy budget h p y v at) tags
      (started-home program plan p budget v) (λ r. tells_start program policy v s p y whole there_is budget) runs
