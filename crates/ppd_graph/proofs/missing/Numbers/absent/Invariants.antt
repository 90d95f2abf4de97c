use Rattle.std.proofs.Common.{◌≡◌, ◌-◌, ◌+◌, is_some}
use Rattle.ppd_graph.specs.ByNumber.{node_kept}
use Rattle.ppd_graph.specs.Refusals.{absent}
use Rattle.ppd_graph.proofs.missing.Numbers.absent.Given as goal

abbrev pub invariant-loop-before : goal.invariant-loop-before
invariant-loop-before g l = record {
  holds : absent l.before l.last (λ n. is_some (node_kept l.self.nodes.now l.kind l.object n)) ≡ absent l.first l.last (λ n. is_some (node_kept l.self.nodes.now l.kind l.object n));
  spent : l.steps + (l.last - l.before) ≡ l.fn.steps + (l.last - l.first);
}
