use Rattle.std.proofs.Common.{◌≤◌, ◌-◌, true}
use Rattle.std.specs.List.{flat_map, range_with_len}
use Rattle.ppd_sets.specs.Used.{reads_at, writes_at}
use Rattle.ppd_sets.specs.Gained.{GainsBoth}
use Rattle.ppd_sets.proofs.bodies.touched_in.Given as goal

abbrev pub invariant-loop-number : goal.invariant-loop-number
invariant-loop-number l = record {
  gained : GainsBoth l.initial.touched l.touched (flat_map (reads_at true l.program) (range_with_len l.body.first (l.number - l.body.first))) (flat_map (writes_at true l.program) (range_with_len l.body.first (l.number - l.body.first)));
  within : l.number - l.body.first ≤ l.number-end - l.body.first;
}
