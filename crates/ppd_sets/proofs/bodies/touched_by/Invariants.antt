use Rattle.std.proofs.Common.{take}
use Rattle.std.specs.List.{flat_map}
use Rattle.ppd_sets.specs.Gained.{GainsBoth, reads_of, writes_of}
use Rattle.ppd_sets.proofs.bodies.touched_by.Given as goal

abbrev pub invariant-loop-number : goal.invariant-loop-number
invariant-loop-number l = GainsBoth l.initial.touched l.touched (flat_map (reads_of l.list) (take l.number-index l.numbers)) (flat_map (writes_of l.list) (take l.number-index l.numbers))
