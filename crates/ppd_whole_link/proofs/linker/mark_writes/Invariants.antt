use Rattle.std.proofs.Common.{◌≡◌, take}
use Rattle.std.specs.Prelude.{fold}
use Rattle.ppd_whole_link.specs.Linkers.{own_access}
use Rattle.ppd_whole_link.proofs.linker.mark_writes.Given as goal

abbrev pub invariant-loop-access : goal.invariant-loop-access
invariant-loop-access l = l.own ≡ fold (own_access l.mark) l.fn.own (take l.access-index l.writes)
