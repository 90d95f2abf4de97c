-- What a schedule is of.
use Rattle.std.specs.Prelude.{◌≤◌}
use Rattle.ppd_ast.specs.declared.limits.TheConstants.{MOST_BUDGET}
use Rattle.ppd_ast.specs.Valid.{IsValid}
use Rattle.ppd_ast.specs.ValidPlan.{IsValidPlan}
use Rattle.ppd_model.specs.Setting.{Setting}

-- the program and the plan are valid, and the budget is one that is allowed
pub record IsValidSetting (s : Setting) : Type 0 where
  pub program : IsValid s.program
  pub plan : IsValidPlan s.program s.plan
  pub budget : s.budget ≤ MOST_BUDGET
