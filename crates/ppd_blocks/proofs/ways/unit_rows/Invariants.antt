use Rattle.std.proofs.Common.{◌≡◌, map}
use Rattle.std.specs.List.{range_with_len}
use Rattle.ppd_blocks.proofs.Vocabulary.{unit_next}
use Rattle.ppd_blocks.proofs.ways.unit_rows.Given as goal

abbrev pub invariant-loop-stmt : goal.invariant-loop-stmt
invariant-loop-stmt l = l.rows ≡ map (unit_next l.program l.loops) (range_with_len 0 l.stmt)
