use Rattle.std.proofs.Common.{◌≡◌, ◌≤◌, ◌++◌, ◌-◌, map}
use Rattle.std.specs.List.{flat_map, range_with_len}
use Rattle.ppd_blocks.specs.Starts.{unit_starts_at, unit_of}
use Rattle.ppd_blocks.proofs.numbering.add_at_stmts.Given as goal

abbrev pub invariant-loop-number : goal.invariant-loop-number
invariant-loop-number l = record {
  added : l.units ≡ l.initial.units ++ map (unit_of l.ways.program.now l.ways.loops.now) (flat_map (unit_starts_at l.ways.program.now l.ways.loops.now) (range_with_len l.body.first (l.number - l.body.first)));
  within : l.number - l.body.first ≤ l.number-end - l.body.first;
}
