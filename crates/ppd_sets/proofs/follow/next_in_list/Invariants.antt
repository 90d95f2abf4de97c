use Rattle.std.proofs.Common.{◌≡◌, drop}
use Rattle.ppd_sets.specs.Flow.{next_in}
use Rattle.ppd_sets.proofs.follow.next_in_list.Given as goal

abbrev pub invariant-loop-index : goal.invariant-loop-index
invariant-loop-index l = next_in l.list l.stmt l.after ≡ next_in (drop l.index l.list) l.stmt l.after
