use Rattle.std.proofs.Common.{◌≤◌, ◌+◌, length, reverse}
use Rattle.ppd_parse.specs.Machine.{state_of}
use Rattle.ppd_parse.specs.Rank.{rank}
use Rattle.ppd_parse.specs.Stack.{HasEndsAlone}
use Rattle.ppd_parse.proofs.Ends.{Ends}
use Rattle.ppd_parse.proofs.reading.finish.Given as goal

abbrev pub invariant-loop-want : goal.invariant-loop-want
invariant-loop-want g l = record {
  over : HasEndsAlone (reverse l.wants.items);
  ends : Ends (state_of l.fn.wants.items l.fn.grove) (state_of l.wants.items l.grove);
  spent : l.steps + rank (reverse l.wants.items) ≤ l.fn.steps + rank (reverse l.fn.wants.items);
}

abbrev pub decreases-loop-want : goal.decreases-loop-want
decreases-loop-want g l = length l.wants.items
