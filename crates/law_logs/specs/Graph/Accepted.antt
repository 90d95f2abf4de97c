-- The logs of a schedule have a graph: none of the causes for which it is refused holds of them.
use Rattle.ppd_model.specs.Setting.{Setting}
use Rattle.std.specs.Prelude.{◌≡◌, ℕ, List, Some}
use Rattle.ppd_model.specs.Logs.{closed_logs}
use Rattle.ppd_model.specs.Schedule.{run}
use Rattle.ppd_model.specs.World.{World}
use Rattle.ppd_model.specs.declared.bad_sync.BadSync.{BadSync}
use Rattle.ppd_model.specs.declared.bad_sync.BadSync.TheVariants.{Memory}
use Rattle.ppd_graph.specs.Refusals.{AreOrdered, IsRefused}

-- of any program and plan, where the schedule can be taken, as each whole one can: each synchronization in its
-- logs has its object, no number stands twice, none is missing, and nothing happens before itself
abbrev pub LogsOfRunsAreOrdered : Type 0
LogsOfRunsAreOrdered =
    (setting : Setting) (h : List ℕ) (w : World) → run setting h ≡ Some w
    → AreOrdered setting.program (closed_logs setting h)

-- so no cause holds but want of memory
abbrev pub GraphsOfRunsAreNotRefused : Type 0
GraphsOfRunsAreNotRefused =
    (setting : Setting) (h : List ℕ) (w : World) → run setting h ≡ Some w
    → (e : BadSync) → (e ≡ Memory → ⊥) → IsRefused setting.program (closed_logs setting h) e → ⊥
