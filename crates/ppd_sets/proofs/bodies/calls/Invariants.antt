use Rattle.std.proofs.Common.{◌≡◌, map}
use Rattle.std.specs.List.{range_with_len}
use Rattle.ppd_sets.proofs.Vocabulary.{calls_at}
use Rattle.ppd_sets.proofs.bodies.calls.Given as goal

abbrev pub invariant-loop-number : goal.invariant-loop-number
invariant-loop-number l = l.rows ≡ map (calls_at l.program) (range_with_len 0 l.number)
