use Rattle.std.proofs.Common.{subst, sym}
use Rattle.ppd_flow_tables.specs.Tabled.{AreOfProcesses}
use Rattle.ppd_flow_tables.proofs.Tabled.{nothing_more}
use Rattle.ppd_flow_tables.proofs.kept.none_of.Goals as goal

pub loop-process-preserved : goal.loop-process-preserved
loop-process-preserved c =
    subst (AreOfProcesses c.args.past.now) (sym c.in_ok-push.ensures.ok)
    (nothing_more c.args.past.now c.loop-process.processes c.loop-process.invariant)
