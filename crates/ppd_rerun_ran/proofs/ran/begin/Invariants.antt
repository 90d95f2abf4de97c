use Rattle.std.proofs.Common.{◌≡◌, map}
use Rattle.ppd_rerun_ran.specs.Runs.{begun_helds}
use Rattle.ppd_rerun_ran.specs.Seeing.{seen}
use Rattle.ppd_rerun_ran.proofs.ran.begin.Given as goal

abbrev pub invariant-loop-process : goal.invariant-loop-process
invariant-loop-process l = map seen l.held.items ≡ begun_helds l.setting.program.now l.setting.plan.now l.process
