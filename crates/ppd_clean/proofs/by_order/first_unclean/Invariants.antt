use Rattle.std.proofs.Common.{◌≡◌, ◌+◌, ◌-◌}
use Rattle.std.specs.List.{range_with_len}
use Rattle.std.specs.Prelude.{find}
use Rattle.ppd_clean.specs.ByOrder.{first_unclean, has_race}
use Rattle.ppd_model.specs.HappenedBefore.{edge}
use Rattle.ppd_clean.proofs.by_order.first_unclean.Given as goal

abbrev pub invariant-loop-edge : goal.invariant-loop-edge
invariant-loop-edge l =
    find (λ i. has_race l.past.graph.now l.firsts (edge l.process i)) (range_with_len l.edge (l.last + 1 - l.edge))
    ≡ first_unclean l.past.graph.now l.firsts l.process l.from l.last
