use Rattle.ppd_graph.specs.Ends.{innermost_from}
use Rattle.ppd_flow_past.proofs.ends.innermost_at.Given as goal
use Rattle.ppd_model.specs.Extents.{extents}
use Rattle.std.proofs.Common.{drop, ◌≡◌}
use Rattle.std.specs.Prelude.{[], get_or}

abbrev pub invariant-loop-interval : goal.invariant-loop-interval
invariant-loop-interval l =
    innermost_from l.n l.innermost l.interval (drop l.interval (extents (get_or l.past.logs.now.lists l.process [])))
    ≡ innermost_from l.n 0 0 (extents (get_or l.past.logs.now.lists l.process []))
