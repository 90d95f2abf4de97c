-- A run of a program, and the schedules that agree with it.
use Rattle.ppd_model.specs.Setting.{Setting, setting_of}
use Rattle.std.specs.Prelude.{ℕ, List}
use Rattle.ppd_ast.specs.declared.plan.Plan.{Plan}
use Rattle.ppd_ast.specs.declared.plan.Policy.{Policy}
use Rattle.ppd_ast.specs.declared.program.Program.{Program}
use Rattle.ppd_blocks.specs.Blocks.{plan_of}
use Rattle.ppd_model.specs.declared.entry.Logs.{Logs}
use Rattle.ppd_model.specs.Agreement.{Agree}
use Rattle.ppd_model.specs.Intervals.{Split, splits}
use Rattle.ppd_model.specs.Logs.{closed_logs}
use Rattle.ppd_model.specs.declared.tracing.Story.{Story}
use Rattle.ppd_model.specs.Story.{story}

-- the source and its program, the policy that partitions it into e-blocks, the budget of a process, and the schedule
-- that the threads took
pub record Run : Type 0 where
  pub source : List ℕ
  pub program : Program
  pub policy : Policy
  pub budget : ℕ
  pub schedule : List ℕ

-- its e-blocks and units
abbrev pub plan_in : Run → Plan
plan_in r = plan_of r.program r.policy

-- its program by this plan, within its budget
abbrev pub setting_in : Run → Setting
setting_in r = setting_of r.program (plan_in r) r.budget

-- what each process does in a schedule of it
abbrev pub story_in : Run → (h : List ℕ) → Story
story_in r h = story (setting_in r) h

-- its processes there, in their intervals
abbrev pub splits_in : Run → (h : List ℕ) → List Split
splits_in r h = splits (setting_in r) (story_in r h)

-- the logs that it wrote
abbrev pub logs_in : Run → Logs
logs_in r = closed_logs (setting_in r) r.schedule

-- the schedule is whole and has the synchronization that this run recorded
abbrev pub AgreesWith : Run → (h : List ℕ) → Type 0
AgreesWith r h = Agree (setting_in r) r.schedule h
