use Rattle.std.proofs.Common.{◌≡◌, [], replicate}
use Rattle.ppd_deps.proofs.graph.empty_rows.Given as goal

abbrev pub invariant-loop-index : goal.invariant-loop-index
invariant-loop-index l = l.rows ≡ replicate l._index []
