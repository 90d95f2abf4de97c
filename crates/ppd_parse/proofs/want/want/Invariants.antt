use Rattle.std.proofs.Common.{◌≡◌, ◌≤◌, ◌++◌, length, drop, reverse}
use Rattle.ppd_parse.specs.Grammar.{wants_in}
use Rattle.ppd_parse.proofs.want.want.Given as goal

abbrev pub invariant-loop-left : goal.invariant-loop-left
invariant-loop-left l = record {
  within : l.left ≤ length l.parts;
  items : l.wants.items ≡ l.fn.wants.items ++ reverse (wants_in l.at l.base (drop l.left l.parts));
}

abbrev pub decreases-loop-left : goal.decreases-loop-left
decreases-loop-left l = l.left
