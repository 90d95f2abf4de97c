use Rattle.std.proofs.Common.{◌≡◌, take}
use Rattle.ppd_world.specs.Parts.{needs_of}
use Rattle.ppd_world.proofs.needs.start_needs.Given as goal

abbrev pub invariant-loop-logging : goal.invariant-loop-logging
invariant-loop-logging l = l.needs.items ≡ needs_of l.code.program.now l.code.plan.now (take l.logging-index l.loggings)
