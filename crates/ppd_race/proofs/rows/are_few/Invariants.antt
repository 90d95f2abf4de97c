use Rattle.std.proofs.Common.{◌≡◌, ℕ, [], ◌<◌, ◌+◌, ◌^◌, get_or, length}
use Rattle.ppd_race.proofs.rows.are_few.Given as goal

abbrev pub invariant-loop-own : goal.invariant-loop-own
invariant-loop-own g l = record {
  few : (q : ℕ) → q < l.own-index → length (get_or l.sets q []) < 2 ^ 32;
  spent : l.steps ≡ l.fn.steps + l.own-index;
}
