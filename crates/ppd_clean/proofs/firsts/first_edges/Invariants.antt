use Rattle.std.proofs.Common.{◌≡◌}
use Rattle.ppd_clean.specs.Firsts.{firsts_of}
use Rattle.ppd_clean.proofs.firsts.first_edges.Given as goal

abbrev pub invariant-loop-number : goal.invariant-loop-number
invariant-loop-number l = l.firsts ≡ firsts_of l.races l.number
