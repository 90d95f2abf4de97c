use Rattle.std.proofs.Common.{◌≤◌, ◌+◌, ◌*◌, length, reverse}
use Rattle.ppd_parse.proofs.Vocabulary.{IsReadTo}
use Rattle.ppd_parse.specs.Machine.{state_of}
use Rattle.ppd_parse.specs.Rank.{rank}
use Rattle.ppd_parse.proofs.reading.grow.Given as goal

abbrev pub invariant-loop-token : goal.invariant-loop-token
invariant-loop-token g l = record {
  read : IsReadTo l.tokens l.token-index l.count (state_of l.wants.items l.grove);
  spent : l.steps + rank (reverse l.wants.items) ≤ l.fn.steps + 15 * (l.token-index + 1);
  held : length l.wants.items ≤ l.peak;
  room : l.peak + 7 * l.fn.steps ≤ l.fn.peak + 7 * l.steps + 7;
  later : l.fn.peak ≤ l.peak;
}
