use Rattle.std.proofs.Common.{◌≡◌, map, take}
use Rattle.ppd_whole_link.specs.Marks.{marks_after}
use Rattle.ppd_whole.proofs.marks.marks_in_turn.Given as goal

abbrev pub invariant-loop-own : goal.invariant-loop-own
invariant-loop-own l = l.all.items ≡ map (λ es. marks_after (map (λ e. e.now) es.items)) (take l.own-index l.events)
