use Rattle.ppd_model.specs.Bounds.{steps_left}
use Rattle.ppd_book.proofs.Turns.{HasTaken}
use Rattle.ppd_book.proofs.kept.Kept.take_rest.Given as goal

abbrev pub invariant-loop-p : goal.invariant-loop-p
invariant-loop-p g l = HasTaken l.initial.self.world l.initial.self.schedule l.self.world l.self.schedule

abbrev pub decreases-loop-p : goal.decreases-loop-p
decreases-loop-p g l = steps_left l.self.world.world.procs
