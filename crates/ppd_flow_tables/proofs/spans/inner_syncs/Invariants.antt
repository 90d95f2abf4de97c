use Rattle.std.specs.Prelude.{slice_get, get_or, []}
use Rattle.ppd_model.specs.Extents.{extents}
use Rattle.ppd_graph.specs.Ends.{syncs_inside}
use Rattle.ppd_flow_tables.proofs.Collected.{AreFirst}
use Rattle.ppd_flow_tables.proofs.spans.inner_syncs.Given as goal

abbrev pub invariant-loop-interval : goal.invariant-loop-interval
invariant-loop-interval l = AreFirst (λ k. syncs_inside (get_or l.past.logs.now.lists l.process [])
    (slice_get (extents (get_or l.past.logs.now.lists l.process [])) k)) l.interval l.inside
