use Rattle.ppd_sets.proofs.Marks.{Holds, work_left}
use Rattle.ppd_sets.proofs.walk.reach.Given as goal

abbrev pub invariant-loop-x : goal.invariant-loop-x
invariant-loop-x l = Holds l.next l.starts l.work

abbrev pub decreases-loop-x : goal.decreases-loop-x
decreases-loop-x l = work_left l.work
