use Rattle.std.proofs.Common.{◌≤◌, ◌+◌, ◌*◌, length, reverse}
use Rattle.ppd_parse.specs.Grammar.{kind_of}
use Rattle.ppd_parse.specs.Machine.{SameAt, state_of}
use Rattle.ppd_parse.specs.Rank.{rank}
use Rattle.ppd_parse.specs.Stack.{IsGood}
use Rattle.ppd_parse.proofs.machine.take.Given as goal

abbrev pub invariant-loop-want : goal.invariant-loop-want
invariant-loop-want g l = record {
  same : SameAt (kind_of l.token.kind) (state_of l.fn.wants.items l.fn.grove) (state_of l.wants.items l.grove);
  good : IsGood (reverse l.wants.items);
  spent : l.steps + rank (reverse l.wants.items) ≤ l.fn.steps + rank (reverse l.fn.wants.items);
  held : length l.wants.items ≤ l.peak;
  room : l.peak + 7 * l.fn.steps ≤ l.fn.peak + 7 * l.steps;
  later : l.fn.peak ≤ l.peak;
}

abbrev pub decreases-loop-want : goal.decreases-loop-want
decreases-loop-want g l = rank (reverse l.wants.items)
