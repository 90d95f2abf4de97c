use Rattle.std.proofs.Common.{◌≡◌, ◌≤◌, ◌++◌, ◌-◌, drop, map}
use Rattle.std.specs.List.{flat_map, range_with_len}
use Rattle.test_valid.proofs.numbered.past_stmts.Given as goal

abbrev pub invariant-loop-number : goal.invariant-loop-number
invariant-loop-number g l = record {
  compared : drop l.place (map g.T.Numbered.key l.list) ≡ flat_map (g.T.Numbered.at_stmt l.stmts l.policy) (range_with_len l.body.first (l.number - l.body.first)) ++ drop l.next (map g.T.Numbered.key l.list);
  within : l.number - l.body.first ≤ l.number-end - l.body.first;
}
