use Rattle.std.specs.List.{range_with_len}
use Rattle.ppd_sets.specs.Gained.{Gains}
use Rattle.ppd_sets.proofs.cells.add_range.Given as goal

abbrev pub invariant-loop-place : goal.invariant-loop-place
invariant-loop-place l = Gains l.fn.cells l.cells (range_with_len l.base l.place)
