use Rattle.std.proofs.Common.{◌≡◌, map, take}
use Rattle.ppd_whole_link.specs.Marks.{marks_after}
use Rattle.ppd_whole_link.proofs.marks.marks_of.Given as goal

abbrev pub invariant-loop-event : goal.invariant-loop-event
invariant-loop-event l = l.marks ≡ marks_after (map (λ e. e.now) (take l.event-index l.events))
