use Rattle.std.proofs.Common.{take, true}
use Rattle.std.specs.List.{flat_map}
use Rattle.ppd_sets.specs.Gained.{Gains}
use Rattle.ppd_sets.specs.Used.{reads_at}
use Rattle.ppd_blocks.proofs.cells.read_by.Given as goal

abbrev pub invariant-loop-stmt : goal.invariant-loop-stmt
invariant-loop-stmt l = Gains l.initial.set l.set (flat_map (reads_at true l.program) (take l.stmt-index l.stmts))
