use Rattle.std.proofs.Common.{take, ◌≤◌, ◌+◌, ◌*◌}
use Rattle.ppd_check.specs.Bodies.{Parametered}
use Rattle.ppd_check_names.specs.Nodes.{phrases_below}
use Rattle.ppd_check_names.specs.Reading.{params}
use Rattle.ppd_check.proofs.bodies.declare_names.Given as goal

-- the names among the children before
abbrev pub invariant-loop-k : goal.invariant-loop-k
invariant-loop-k g l = record {
  declares : Parametered (params (take l.k (phrases_below l.source.nodes.now l.id))) l.fn.frame l.frame l.fn.found l.found;
  cost : l.steps ≤ l.fn.steps + 6 * l.k;
}
