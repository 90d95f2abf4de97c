use Rattle.std.proofs.Common.{◌≡◌, take}
use Rattle.std.specs.Prelude.{fold}
use Rattle.ppd_whole_writes.specs.Writes.{mark_access}
use Rattle.ppd_whole_writes.proofs.marks.mark_writes.Given as goal

abbrev pub invariant-loop-access : goal.invariant-loop-access
invariant-loop-access l = l.written ≡ fold (mark_access l.edge l.number) l.fn.written (take l.access-index l.writes)
