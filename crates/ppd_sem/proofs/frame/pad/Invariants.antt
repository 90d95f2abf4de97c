use Rattle.std.proofs.Common.{◌≡◌, ◌++◌, pos}
use Rattle.std.specs.Prelude.{replicate}
use Rattle.ppd_sem.proofs.frame.pad.Given as goal

abbrev pub invariant-loop-index : goal.invariant-loop-index
invariant-loop-index l = l.values ≡ l.fn.values ++ replicate l._index (pos 0)
