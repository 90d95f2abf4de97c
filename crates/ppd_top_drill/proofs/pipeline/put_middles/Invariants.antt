use Rattle.std.proofs.Common.{◌≡◌, ◌++◌}
use Rattle.std.specs.List.{flat_map, range_with_len}
use Rattle.ppd_top_drill.specs.Drills.{middle_process}
use Rattle.ppd_top_drill.proofs.pipeline.put_middles.Given as goal

abbrev pub invariant-loop-process : goal.invariant-loop-process
invariant-loop-process l = l.text.items ≡ l.initial.text.items ++ flat_map (middle_process l.number) (range_with_len 1 l.process)
