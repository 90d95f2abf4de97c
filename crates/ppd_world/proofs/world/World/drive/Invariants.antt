use Rattle.std.proofs.Common.{◌+◌, ◌≤◌, take}
use Rattle.ppd_model.specs.Bounds.{steps_left}
use Rattle.ppd_world.specs.Running.{IsReached, Takes}
use Rattle.ppd_world.proofs.Sound.{most}
use Rattle.ppd_world.proofs.world.World.drive.Given as goal

abbrev pub invariant-loop-index : goal.invariant-loop-index
invariant-loop-index l = record {
  kept : IsReached l.self;
  taken : Takes l.fn.self (take l.index l.schedule) l.self;
  few : l.index + steps_left l.self.world.procs ≤ most;
}
