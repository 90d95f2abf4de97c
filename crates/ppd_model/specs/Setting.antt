-- What runs: a program by a plan of its e-blocks, each process within a budget of steps.
use Rattle.std.specs.Prelude.{ℕ}
use Rattle.ppd_ast.specs.declared.plan.Plan.{Plan}
use Rattle.ppd_ast.specs.declared.program.Program.{Program}

-- the program, the plan, and how many steps each process may take
pub record Setting : Type 0 where
  pub program : Program
  pub plan : Plan
  pub budget : ℕ

-- the setting of these three
abbrev pub setting_of : Program → Plan → ℕ → Setting
setting_of program plan budget = record { program = program; plan = plan; budget = budget }
