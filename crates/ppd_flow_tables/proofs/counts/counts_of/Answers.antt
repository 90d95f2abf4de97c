use Rattle.ppd_flow_tables.proofs.Collected.{more_counted}
use Rattle.ppd_flow_tables.proofs.counts.counts_of.Goals as goal

pub loop-entry-preserved : goal.loop-entry-preserved
loop-entry-preserved c =
    more_counted c.args.entries.now c.loop-entry.entry-index c.loop-entry.count c.count_with-count.result
    c.loop-entry.counts c.push-in-loop-entry.new.self c.entry-item.result c.entry-item.result
    c.loop-entry.invariant c.loop-entry-test.true c.entry-item.is c.count_with-count.ensures c.in_ok-push-2.ensures.ok
