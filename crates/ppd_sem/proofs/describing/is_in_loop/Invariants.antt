use Rattle.std.proofs.Common.{◌≡◌, drop}
use Rattle.ppd_sem.specs.Described.{is_in_loop as is_in_loop_of}
use Rattle.ppd_sem.proofs.describing.is_in_loop.Given as goal

abbrev pub invariant-loop-index : goal.invariant-loop-index
invariant-loop-index l = is_in_loop_of l.program (drop l.index l.todo) ≡ is_in_loop_of l.program l.todo
