use Rattle.std.proofs.Common.{◌≡◌, drop}
use Rattle.ppd_sem.proofs.blocks.write_values.Given as goal
use Rattle.ppd_sem.specs.Process.{with_values}

abbrev pub invariant-loop-index : goal.invariant-loop-index
invariant-loop-index l = with_values (drop l.index l.numbers) (drop l.index l.values) l.cells ≡ with_values l.numbers l.values l.fn.cells
