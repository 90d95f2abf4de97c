use Rattle.ppd_world.specs.Running.{IsReached}
use Rattle.test_cases.proofs.worlds.drive_lowest.Given as goal

abbrev pub invariant-loop : goal.invariant-loop
invariant-loop l = IsReached l.world
