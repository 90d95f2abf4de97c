-- The setting of a program under the plan of a policy, and the costs of its runs: the plan lists all parameters of its
-- functions' blocks.
use Rattle.ppd_model.specs.Setting.{Setting}
use Rattle.std.specs.Prelude.{◌≡◌, ℕ, List, slice_get, Some}
use Rattle.ppd_ast.specs.Valid.{IsValid}
use Rattle.ppd_ast.specs.ValidPlan.{IsValidPolicy}
use Rattle.ppd_ast.specs.declared.plan.Policy.{Policy}
use Rattle.ppd_ast.specs.declared.program.Program.{Program}
use Rattle.ppd_blocks.specs.Blocks.{plan_of}
use Rattle.ppd_model.specs.Costs.{CostsWhatItWrites, HasSpent}
use Rattle.ppd_model.specs.Laws.{logged_moment}
use Rattle.ppd_model.specs.declared.state.Logging.{Logging}
use Rattle.ppd_model.specs.Logs.{loggings}
use Rattle.ppd_model.specs.Story.{told}

-- the setting of a program with the plan of a policy
abbrev pub setting_by : Program → Policy → ℕ → Setting
setting_by program policy budget = record { program = program; plan = plan_of program policy; budget = budget }

-- the next step of each process after each schedule costs what it writes
abbrev pub PolicyStepsCostWhatTheyWrite : Type 0
PolicyStepsCostWhatTheyWrite =
    (program : Program) (policy : Policy) (budget : ℕ) (h : List ℕ) (p : ℕ) (l : Logging) → IsValid program
    → IsValidPolicy policy
    → slice_get (loggings (setting_by program policy budget) h) p ≡ Some l
    → CostsWhatItWrites (setting_by program policy budget) l
    (logged_moment program (plan_of program policy) (told (setting_by program policy budget) h).world p)

-- each process has spent its steps and the values of its log, but for the entries of the start
abbrev pub PolicyLogsArePaid : Type 0
PolicyLogsArePaid =
    (program : Program) (policy : Policy) (budget : ℕ) (h : List ℕ) (p : ℕ) (l : Logging) → IsValid program
    → IsValidPolicy policy
    → slice_get (loggings (setting_by program policy budget) h) p ≡ Some l → HasSpent l
