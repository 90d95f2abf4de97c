use Rattle.std.proofs.Common.{◌≡◌, drop}
use Rattle.ppd_clean.specs.ByOrder.{has_race}
use Rattle.ppd_clean.proofs.by_order.has_race.Given as goal

abbrev pub invariant-loop-first : goal.invariant-loop-first
invariant-loop-first l = has_race l.graph (drop l.first-index l.firsts) l.edge ≡ has_race l.graph l.firsts l.edge
