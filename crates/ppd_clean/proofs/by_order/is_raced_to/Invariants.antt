use Rattle.std.proofs.Common.{◌≡◌, drop}
use Rattle.ppd_clean.specs.ByOrder.{is_raced_to}
use Rattle.ppd_clean.proofs.by_order.is_raced_to.Given as goal

abbrev pub invariant-loop-first : goal.invariant-loop-first
invariant-loop-first l = is_raced_to (drop l.first-index l.firsts) l.edge ≡ is_raced_to l.firsts l.edge
