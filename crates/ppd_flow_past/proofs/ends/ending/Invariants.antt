use Rattle.std.proofs.Common.{◌≡◌, ◌+◌, drop}
use Rattle.ppd_graph.specs.Ends.{ending}
use Rattle.ppd_flow_past.proofs.ends.ending.Given as goal

-- so many entries stand before the end, and those that are looked for among the rest
abbrev pub invariant-loop-n : goal.invariant-loop-n
invariant-loop-n l = l.n + ending l.left (drop l.n l.entries) ≡ ending l.edge l.entries
