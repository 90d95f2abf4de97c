use Rattle.std.proofs.Common.{ap, arith}
use Rattle.std.specs.Prelude.{is_some}
use Rattle.std.proofs.Common.{sym, ◌∙◌}
use Rattle.ppd_graph.specs.ByNumber.{node_kept}
use Rattle.ppd_graph.proofs.Searched.{absent_more}
use Rattle.ppd_graph.proofs.missing.Numbers.absent.Goals as goal

pub loop-before-preserved : goal.loop-before-preserved
loop-before-preserved g c = record {
  holds = absent_more (λ n. is_some (node_kept c.args.self.now.nodes.now c.args.kind c.args.object n)) c.loop-before.before c.args.last c.is_none.result _ c.loop-before-test.true
      (sym (ap is_some c.find.ensures) ∙ c.is_none.ensures) c.if-is_none.false c.loop-before.invariant.holds;
  spent = omega (arith, c.tick.ensures, c.loop-before.invariant.spent, c.loop-before-test.true);
}
