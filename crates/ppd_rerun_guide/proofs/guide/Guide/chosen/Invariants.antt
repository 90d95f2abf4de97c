use Rattle.std.specs.List.{range_with_len}
use Rattle.std.specs.Prelude.{find}
use Rattle.std.proofs.Common.{◌≡◌, ◌-◌, length}
use Rattle.ppd_rerun_guide.specs.Guided.{chosen, may_step}
use Rattle.ppd_rerun_guide.specs.Guides.{guiding_of}
use Rattle.ppd_rerun_guide.proofs.guide.Guide.chosen.Given as goal

abbrev pub invariant-loop-p : goal.invariant-loop-p
invariant-loop-p l =
    chosen l.self.world.setting.program l.self.world.setting.plan (guiding_of l.self.world l.self.dues.items)
    ≡ find (may_step l.self.world.setting.program l.self.world.setting.plan (guiding_of l.self.world l.self.dues.items)) (range_with_len l.p (length l.self.world.world.procs - l.p))
