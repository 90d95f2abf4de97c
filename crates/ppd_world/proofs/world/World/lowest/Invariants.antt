use Rattle.std.proofs.Common.{◌≡◌, ℕ, ◌<◌, false}
use Rattle.ppd_world.specs.Running.{can_step}
use Rattle.ppd_world.proofs.world.World.lowest.Given as goal

abbrev pub invariant-loop-p : goal.invariant-loop-p
invariant-loop-p l = (q : ℕ) → q < l.p → can_step l.self q ≡ false
