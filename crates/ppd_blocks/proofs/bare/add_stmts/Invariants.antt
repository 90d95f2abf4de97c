use Rattle.std.proofs.Common.{◌≡◌, ◌≤◌, ◌++◌, ◌-◌, map}
use Rattle.std.specs.List.{flat_map, range_with_len}
use Rattle.ppd_blocks.proofs.bare.add_stmts.Given as goal

abbrev pub invariant-loop-number : goal.invariant-loop-number
invariant-loop-number g l = record {
  added : l.list ≡ l.initial.list ++ map (g.T.Bare.bare l.program.bodies) (flat_map (g.T.Bare.at_stmt l.program.stmts l.policy) (range_with_len l.body.first (l.number - l.body.first)));
  within : l.number - l.body.first ≤ l.number-end - l.body.first;
}
