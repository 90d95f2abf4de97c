use Rattle.std.proofs.Common.{◌≡◌}
use Rattle.std.specs.List.{range_with_len}
use Rattle.std.specs.Prelude.{replicate, pos}
use Rattle.ppd_sem.proofs.frames.clear_cells.Given as goal
use Rattle.ppd_sem.specs.Process.{with_values}

abbrev pub invariant-loop-index : goal.invariant-loop-index
invariant-loop-index l = l.cells ≡ with_values (range_with_len l.base l.index) (replicate l.index (pos 0)) l.fn.cells
