use Rattle.std.proofs.Common.{rules}
use Rattle.ppd_whole.proofs.lines.put_reads.Goals as goal

pub loop-access-init : goal.loop-access-init
loop-access-init c = search rules depth 1 fits 30

pub loop-access-smaller : goal.loop-access-smaller
loop-access-smaller c = search rules depth 1 fits 30

pub put_read-requires : goal.put_read-requires
put_read-requires c = search rules depth 1 fits 30
