-- A run that came to its end, of which something can be told.
use Rattle.ppd_model.specs.Setting.{Setting, setting_of}
use Rattle.std.specs.Prelude.{◌≡◌, ℕ, List}
use Rattle.ppd_ast.specs.Valid.{IsValid}
use Rattle.ppd_ast.specs.ValidPlan.{IsValidPlan}
use Rattle.ppd_ast.specs.declared.plan.Policy.{Policy}
use Rattle.ppd_ast.specs.declared.program.Program.{Program}
use Rattle.ppd_blocks.specs.Blocks.{plan_of}
use Rattle.ppd_model.specs.declared.closed.Closed.{Closed}
use Rattle.ppd_model.specs.Logs.{close}
use Rattle.ppd_model.specs.Schedule.{IsWhole}
use Rattle.ppd_top_requests.specs.declared.options.Options.{Options}
use Rattle.ppd_top_runs.specs.declared.run.ClosedRun.{ClosedRun}

-- the setting of a run
abbrev pub run_setting : ClosedRun → Setting
run_setting run = setting_of run.program.now run.plan run.budget

-- the program is valid, the plan is that of some policy, and this is what some whole schedule of theirs within this
-- budget leaves
pub record CanBeTold (setting : Setting) (closed : Closed) : Type 0 where
  pub program_ok : IsValid setting.program
  pub plan_ok : IsValidPlan setting.program setting.plan
  pub policy : Policy
  pub plan_is : setting.plan ≡ plan_of setting.program policy
  pub schedule : List ℕ
  pub whole : IsWhole setting schedule
  pub is : closed ≡ close setting schedule

-- this run is that of the program with these options, by this schedule, and came to its end
pub record IsRunOf (program : Program) (options : Options) (schedule : List ℕ) (run : ClosedRun) : Type 0 where
  pub program_is : run.program.now ≡ program
  pub budget_is : run.budget ≡ options.budget
  pub plan_is : run.plan ≡ plan_of program options.policy
  pub whole : IsWhole (setting_of program run.plan options.budget) schedule
  pub closed_is : run.closed ≡ close (setting_of program run.plan options.budget) schedule
  pub told : CanBeTold (run_setting run) run.closed
