use Rattle.ppd_model.specs.Setting.{setting_of}
use Rattle.std.proofs.Common.{◌≡◌}
use Rattle.ppd_world.specs.Starts.{begun_logs}
use Rattle.ppd_world.proofs.starting.start_logs.Given as goal

abbrev pub invariant-loop-process : goal.invariant-loop-process
invariant-loop-process l = l.loggings.items ≡ begun_logs (setting_of l.program l.plan l.budget) l.process
