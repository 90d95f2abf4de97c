use Rattle.std.proofs.Common.{◌≡◌, ◌-◌}
use Rattle.std.specs.List.{range_with_len}
use Rattle.std.specs.Prelude.{fold}
use Rattle.ppd_clean.specs.ByOrder.{is_wanted, last_before, later}
use Rattle.ppd_model.specs.HappenedBefore.{edge}
use Rattle.ppd_clean.proofs.wanted.last_before.Given as goal

abbrev pub invariant-loop-edge : goal.invariant-loop-edge
invariant-loop-edge l =
    fold (λ found i. later (is_wanted l.graph l.firsts l.top (edge l.process i)) i found) l.last (range_with_len l.edge (l.count - l.edge))
    ≡ last_before l.graph l.firsts l.top l.process l.count
