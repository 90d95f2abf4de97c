use Rattle.std.proofs.Common.{◌≡◌, ◌+◌, flat_map, length}
use Rattle.ppd_race.proofs.search.joined.Given as goal

abbrev pub invariant-loop-part : goal.invariant-loop-part
invariant-loop-part g l = record {
  joined : l.races ≡ flat_map (λ part. part) l.yielded;
  spent : l.steps ≡ l.fn.steps + length l.yielded;
}
