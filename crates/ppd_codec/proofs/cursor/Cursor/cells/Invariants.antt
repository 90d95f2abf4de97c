use Rattle.std.proofs.Common.{◌≡◌, ◌+◌, ◌≤◌, length}
use Rattle.ppd_codec.specs.Reader.{next, several}
use Rattle.ppd_codec.specs.Format.{cell}
use Rattle.ppd_codec.proofs.Several.{onto}
use Rattle.ppd_codec.proofs.cursor.Cursor.cells.Given as goal

abbrev pub invariant-loop-left : goal.invariant-loop-left
invariant-loop-left g l = record {
  reads : several (λ low. (cell l.shared low).read) (λ c. c + 1) (0) l.initial.left l.initial.self.at l.initial.self.rest.now ≡ next (several (λ low. (cell l.shared low).read) (λ c. c + 1) (l.low) l.left) (onto l.found) l.self.at l.self.rest.now;
  within : l.self.at + length l.self.rest.now ≤ l.initial.self.at + length l.initial.self.rest.now;
  cost : l.steps + length l.self.rest.now ≤ l.initial.steps + length l.initial.self.rest.now;
}

abbrev pub decreases-loop-left : goal.decreases-loop-left
decreases-loop-left g l = l.left
