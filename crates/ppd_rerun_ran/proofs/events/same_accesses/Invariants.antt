use Rattle.std.proofs.Common.{◌≡◌, take}
use Rattle.ppd_rerun_ran.proofs.events.same_accesses.Given as goal

abbrev pub invariant-loop-index : goal.invariant-loop-index
invariant-loop-index l = take l.index l.some ≡ take l.index l.others
