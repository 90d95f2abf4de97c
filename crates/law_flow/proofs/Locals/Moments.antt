-- A step of a process in a schedule, with the levels before it.
use Rattle.law_steps.specs.Policies.{setting_by}
use Rattle.ppd_model.specs.Setting.{setting_of}
use Rattle.std.proofs.Common.{◌≡◌, ℕ, Bool, true, false, List, [], ◌∷◌, ◌++◌, Option, Some, None, refl, ap, sym, subst, ◌∙◌, length, true≢false}
use Rattle.std.specs.Prelude.{fold, slice_get, get_or}
use Rattle.ppd_ast.specs.Valid.{IsValid}
use Rattle.ppd_ast.specs.declared.plan.Plan.{Plan}
use Rattle.ppd_ast.specs.declared.plan.Policy.{Policy}
use Rattle.ppd_ast.specs.declared.program.Program.{Program}
use Rattle.ppd_ast.specs.declared.status.Status.{Status}
use Rattle.ppd_blocks.specs.Blocks.{plan_of}
use Rattle.ppd_sem.specs.Process.{need_of, started}
use Rattle.ppd_sem.specs.declared.proc.Need.{Need}
use Rattle.ppd_sem.specs.declared.proc.Need.TheVariants as need
use Rattle.ppd_sem.proofs.Progress.{need_at_status}
use Rattle.ppd_sem.specs.Described.{is_event}
use Rattle.ppd_model.specs.FullTrace.{event_of, traced_by}
use Rattle.ppd_model.specs.Intervals.{Split, begun_split, split_of, split_step, splits}
use Rattle.ppd_model.specs.LocalTags.{AreOwn}
use Rattle.ppd_model.specs.Story.{story}
use Rattle.ppd_model.specs.declared.tracing.Story.{Story}
use Rattle.ppd_model.specs.declared.tracing.Taken.{Taken}
use Rattle.ppd_model.proofs.LocalTags.{own_steps_told}
use Rattle.law_flow.specs.Places.Levels.{IsLater, Level}
use Rattle.law_flow.proofs.Places.Later.{step_stands, steps_later}
use Rattle.law_flow.proofs.Places.LeafTells.{comes_to, levels_at, stands_at}
use Rattle.law_flow.proofs.Places.Steps.{event_there}

-- each of a process's own steps has the need of the state before it
pub own_need : (program : Program) (plan : Plan) (story : Story) (p : ℕ) (x : Split) (before : List Taken)
    (t : Taken) (after : List Taken) → AreOwn program plan x.trace.proc (before ++ t ∷ after)
    → t.need ≡ need_of program plan (fold (split_step program plan story p) x before).trace.proc
own_need program plan story p x [] t after h = h.0
own_need program plan story p x (u ∷ us) t after h =
    own_need program plan story p (split_step program plan story p x u) us t after h.1

module _ (program : Program) (policy : Policy) (budget : ℕ) (h : List ℕ) (p : ℕ) (y : Split) (v : IsValid program)
    (at : slice_get (splits (setting_by program policy budget)
    (story (setting_by program policy budget) h)) p ≡ Some y)
    (before : List Taken) (t : Taken) (after : List Taken)
    (steps : get_or (story (setting_by program policy budget) h).steps p [] ≡ before ++ t ∷ after) where
  abbrev plan : Plan
  plan = plan_of program policy

  abbrev s : Story
  s = story (setting_of program plan budget) h

  -- before the step, and after it
  abbrev pub now : Split
  now = split_of (setting_of program plan budget) s p before

  abbrev pub next : Split
  next = split_step program plan s p (split_of (setting_of program plan budget) s p before) t

  abbrev pub ls : List Level
  ls = levels_at program policy budget h p y v at before

  pub need_is : t.need ≡ need_of program plan now.trace.proc
  need_is = own_need program plan s p (begun_split program plan p (started program plan p budget)) before t after
      (subst (AreOwn program plan (started program plan p budget)) steps (own_steps_told (setting_of program plan budget) h p))

  pub next_later : IsLater next y
  next_later =
      let stands = stands_at program policy budget h p y v at before (t ∷ after) steps in
      let one = step_stands program plan s p now t ls stands in
      subst (IsLater next) (comes_to program policy budget h p y v at before (t ∷ after) steps)
      (steps_later program plan s p next _ after one.0)

  -- a step that needs something is of a process that has not stopped
  pub running : (f : Need → Bool) → f need.Stopped ≡ false → f t.need ≡ true → now.trace.proc.status ≡ None
  running f stopped is_so = by now.trace.proc.status refl
    where
      by : (o : Option Status) → now.trace.proc.status ≡ o → o ≡ None
      by None e = refl
      by (Some st) e = absurd (true≢false (sym is_so
          ∙ ap f (need_is ∙ need_at_status program plan now.trace.proc (Some st) e) ∙ stopped))

  -- the event of the step
  pub event_at : is_event t.need ≡ true
      → slice_get y.trace.events (length now.trace.events)
      ≡ Some (traced_by program s t now.trace (event_of program plan now.trace.proc t now.trace.proc.todo))
  event_at e = next_later.events (length now.trace.events) _ (event_there program plan s p t now.trace t.need e)
