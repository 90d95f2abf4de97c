use Rattle.std.proofs.Common.{◌≡◌, ◌+◌, ◌<◌, ◌≤◌, ◌⊎◌}
use Rattle.ppd_flow_tables.proofs.Painted.{ArePainted}
use Rattle.ppd_flow_tables.proofs.innermost.paint.Given as goal

abbrev pub invariant-loop-n : goal.invariant-loop-n
invariant-loop-n l = record {
  painted : ArePainted l.fn.innermost l.innermost l.first l.n l.interval;
  from : l.first < l.n;
  to : (l.n ≤ l.last + 1) ⊎ (l.n ≡ l.first + 1);
}
