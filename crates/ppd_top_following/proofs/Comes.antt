-- From a world that was reached to the run of its program.
use Rattle.law_steps.specs.Policies.{setting_by}
use Rattle.ppd_model.specs.Setting.{Setting}
use Rattle.std.specs.Prelude.{Some}
use Rattle.std.proofs.Common.{◌≡◌, ℕ, List, subst}
use Rattle.ppd_ast.specs.declared.program.Program.{Program}
use Rattle.ppd_model.specs.Schedule.{run}
use Rattle.ppd_world.specs.Running.{Running}
use Rattle.ppd_top_requests.specs.declared.options.Options.{Options}

pub runs_as : (program : Program) (options : Options) (r : Running) → r.setting ≡ setting_by program options.policy options.budget
    → (h : List ℕ) → run r.setting h ≡ Some r.world → run (setting_by program options.policy options.budget) h ≡ Some r.world
runs_as program options r same h e = subst (λ (x : Setting). run x h ≡ Some r.world) same e
