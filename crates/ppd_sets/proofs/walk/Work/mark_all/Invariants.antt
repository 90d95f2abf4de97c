use Rattle.std.proofs.Common.{◌≡◌, take, length}
use Rattle.ppd_sets.specs.WorkList.{with_marks}
use Rattle.ppd_sets.proofs.walk.Work.mark_all.Given as goal

abbrev pub invariant-loop-x : goal.invariant-loop-x
invariant-loop-x l = (l.self ≡ with_marks (take l.x-index l.xs) l.initial.self) × (length l.self.marks ≡ length l.initial.self.marks)
