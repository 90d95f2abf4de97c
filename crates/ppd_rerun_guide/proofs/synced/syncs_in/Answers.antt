use Rattle.std.proofs.Common.{map}
use Rattle.ppd_rerun_guide.specs.Guides.{plain}
use Rattle.ppd_rerun_guide.proofs.Guides.{filter_more}
use Rattle.ppd_rerun_guide.proofs.synced.syncs_in.Goals as goal

pub loop-entry-preserved : goal.loop-entry-preserved
loop-entry-preserved c =
    filter_more c.args.entries.now c.loop-entry.entry-index c.entry-item.result (map plain c.loop-entry.syncs) (map plain c.take_entry.new.syncs)
    c.loop-entry-test.true c.entry-item.is c.in_ok-take_entry.ensures c.loop-entry.invariant
