-- The logs of a whole schedule have an index: no entry of them is refused.
use Rattle.law_steps.specs.Policies.{setting_by}
use Rattle.std.specs.Prelude.{◌≡◌, ℕ, List, None}
use Rattle.ppd_ast.specs.Valid.{IsValid}
use Rattle.ppd_ast.specs.declared.plan.Policy.{Policy}
use Rattle.ppd_ast.specs.declared.program.Program.{Program}
use Rattle.ppd_blocks.specs.Blocks.{plan_of}
use Rattle.ppd_index.specs.Refusals.{first_in_lists}
use Rattle.ppd_model.specs.Logs.{closed_logs}
use Rattle.ppd_model.specs.Schedule.{IsWhole}

-- of a valid program, with the plan of any policy: prelogs and postlogs pair up, each with the values that
-- the plan says, each list begins with its process's block, and one end comes last
abbrev pub LogsOfRunsAreIndexed : Type 0
LogsOfRunsAreIndexed =
    (program : Program) (policy : Policy) (budget : ℕ) (h : List ℕ) → IsValid program
    → IsWhole (setting_by program policy budget) h
    → first_in_lists program (plan_of program policy) 0 (closed_logs (setting_by program policy budget) h).lists
    ≡ None
