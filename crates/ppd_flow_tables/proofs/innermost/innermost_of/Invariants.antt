use Rattle.ppd_graph.specs.Ends.{innermost_from}
use Rattle.ppd_flow_tables.proofs.innermost.innermost_of.Given as goal
use Rattle.ppd_model.specs.Extents.{extents}
use Rattle.std.proofs.Common.{drop, get_or, length, ℕ, ◌+◌, ◌≡◌, ◌≤◌}
use Rattle.std.specs.Prelude.{[]}

abbrev pub invariant-loop-interval : goal.invariant-loop-interval
invariant-loop-interval l = record {
  long : length l.innermost ≡ l.count + 1;
  are : (n : ℕ) → n ≤ l.count
      → innermost_from n (get_or l.innermost n 0) l.interval
      (drop l.interval (extents (get_or l.past.logs.now.lists l.process [])))
      ≡ innermost_from n 0 0 (extents (get_or l.past.logs.now.lists l.process []));
}
