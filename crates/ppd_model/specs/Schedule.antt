-- Schedules: who steps one after the other, the world that this comes to, and when it is whole.
use Rattle.ppd_model.specs.Setting.{Setting}
use Rattle.std.specs.Prelude.{◌≡◌, ℕ, ◌-◌, false, List, [], ◌∷◌, map, length, Option, Some, None, if◌then◌else◌}
use Rattle.std.specs.List.{range_with_len}
use Rattle.ppd_ast.specs.declared.program.Program.{Program}
use Rattle.ppd_ast.specs.declared.plan.Plan.{Plan}
use Rattle.ppd_sem.specs.Process.{started}
use Rattle.ppd_model.specs.World.{World, enabled, step}

-- the world after the steps of the schedule, or none where a process was not enabled in its turn
abbrev pub run_from : Program → Plan → World → List ℕ → Option World
run_from program plan w [] = Some w
run_from program plan w (p ∷ h) =
    if enabled program plan w p then run_from program plan (step program plan w p) h else None

-- the world before the first step: the processes are the bodies after the functions
abbrev pub started_world : Setting → World
started_world setting = record {
  shared = setting.program.starts;
  sems = map (λ s. record { given = s.start; taken = 0 }) setting.program.sems;
  chans = map (λ c. record { capacity = c.capacity; sent = []; received = 0; completed = 0 }) setting.program.chans;
  procs = map (λ p. started setting.program setting.plan p setting.budget)
      (range_with_len 0 (length setting.program.bodies - setting.program.functions));
}

-- the world after the steps of the schedule from the start
abbrev pub run : Setting → List ℕ → Option World
run setting h = run_from setting.program setting.plan (started_world setting) h

-- nobody is enabled
pub record IsOver (program : Program) (plan : Plan) (w : World) : Type 0 where
  pub nobody : (p : ℕ) → enabled program plan w p ≡ false

-- the schedule can be taken, and nobody is enabled after it
pub record IsWhole (setting : Setting) (h : List ℕ) : Type 0 where
  pub last : World
  pub runs : run setting h ≡ Some last
  pub over : IsOver setting.program setting.plan last
