use Rattle.std.proofs.Common.{◌≡◌, ◌+◌, drop}
use Rattle.ppd_parse.specs.Front.{close_from}
use Rattle.ppd_parse.proofs.text.close_from.Given as goal

abbrev pub invariant-loop-i : goal.invariant-loop-i
invariant-loop-i l = close_from (l.before + l.i) (drop l.i l.bytes) ≡ close_from l.before l.bytes
