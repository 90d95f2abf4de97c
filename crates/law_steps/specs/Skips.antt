-- A loop or a call that is gone past by the postlog of its interval.
use Rattle.law_steps.specs.Policies.{setting_by}
use Rattle.ppd_model.specs.Setting.{Setting}
use Rattle.std.specs.Prelude.{◌≡◌, ℕ, suc, ◌+◌, ℤ, List, take, slice_get, Some, get_or, []}
use Rattle.ppd_ast.specs.declared.plan.Plan.{Plan}
use Rattle.ppd_ast.specs.declared.plan.Policy.{Policy}
use Rattle.ppd_ast.specs.declared.program.Program.{Program}
use Rattle.ppd_ast.specs.Valid.{IsValid}
use Rattle.ppd_blocks.specs.Blocks.{plan_of}
use Rattle.ppd_sem.specs.declared.proc.Need.{Need}
use Rattle.ppd_sem.specs.declared.proc.Need.TheVariants.{Enter, Invoke}
use Rattle.ppd_sem.specs.declared.proc.Proc.{Proc}
use Rattle.ppd_sem.specs.Blocks.{skipped}
use Rattle.ppd_sem.specs.Process.{need_of}
use Rattle.ppd_model.specs.declared.tracing.Story.{Story}
use Rattle.ppd_model.specs.Intervals.{Span, intervals}
use Rattle.ppd_model.specs.States.{state_of}
use Rattle.ppd_model.specs.Story.{story}

-- process p of a story after the first n of its steps
abbrev pub state_after : Setting → Story → ℕ → ℕ → Proc
state_after setting story p n = state_of setting p (take n (get_or story.steps p []))

-- what comes next is to enter the loop that is block b, or to call the function that is block b
abbrev pub BeginsBlock : ℕ → Need → Type 0
BeginsBlock b (Enter c u) = c ≡ b
BeginsBlock b (Invoke (Some c) u) = c ≡ b
BeginsBlock b need = ⊥

-- block b comes next, and going past it with these values of its postlog gives the state after it: all of it but what
-- was spent, the count of steps and what was printed
pub record IsGonePast (program : Program) (plan : Plan) (b : ℕ) (values : List ℤ) (before after : Proc) : Type 0 where
  pub begins : BeginsBlock b (need_of program plan before)
  pub frames : (skipped program plan values before).frames ≡ after.frames
  pub todo : (skipped program plan values before).todo ≡ after.todo
  pub answers : (skipped program plan values before).answers ≡ after.answers
  pub below : (skipped program plan values before).below ≡ after.below
  pub budget : (skipped program plan values before).budget ≡ after.budget
  pub status : (skipped program plan values before).status ≡ after.status

-- in the story of a schedule of a valid program, with the plan of a policy: each interval of a process that has ended,
-- but for interval 0, the process's own, is gone past by the values of its postlog, from before the step that wrote its
-- prelog to after the step that wrote its postlog
abbrev pub SkipsGoPast : Type 0
SkipsGoPast =
    (program : Program) (policy : Policy) (budget : ℕ) (h : List ℕ) (p k n : ℕ) (i : Span)
    → IsValid program
    → slice_get (intervals (setting_by program policy budget)
    (story (setting_by program policy budget) h) p) (suc k) ≡ Some i
    → i.closed ≡ Some n
    → IsGonePast program (plan_of program policy) i.block i.values
    (state_after (setting_by program policy budget) (story (setting_by program policy budget) h) p i.opened)
    (state_after (setting_by program policy budget) (story (setting_by program policy budget) h) p (n + 1))
