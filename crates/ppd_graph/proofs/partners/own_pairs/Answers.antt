use Rattle.std.proofs.Common.{arith}
use Rattle.ppd_graph.specs.ByNumber.{partner_kept}
use Rattle.ppd_graph.proofs.Counted.{paired_more}
use Rattle.ppd_graph.proofs.partners.own_pairs.Goals as goal

pub loop-entry-preserved : goal.loop-entry-preserved
loop-entry-preserved g c = record {
  holds = paired_more (partner_kept c.args.program.now c.args.nodes.now) c.args.entries.now c.loop-entry.entry-index c.entry-item.result c.loop-entry.pairs c.take_entry.new.pairs _ c.loop-entry-test.true c.entry-item.is c.loop-entry.invariant.holds c.in_ok-take_entry.ensures;
  spent = omega (arith, c.tick.ensures, c.loop-entry.invariant.spent);
}
