use Rattle.std.proofs.Common.{◌≡◌, ◌≤◌, ◌+◌, length, ◌||◌}
use Rattle.ppd_ast.specs.Members.{has, those}
use Rattle.ppd_race.proofs.union.walked.Given as goal

abbrev pub invariant-loop-cell : goal.invariant-loop-cell
invariant-loop-cell g l = record {
  those_are : l.cells ≡ those l.cell (λ c. has l.reads c || has l.writes c);
  size : length l.cells ≤ l.cell;
  spent : l.steps ≡ l.fn.steps + l.cell;
}
