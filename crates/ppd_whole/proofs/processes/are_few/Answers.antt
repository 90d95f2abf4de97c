use Rattle.std.proofs.Common.{rules}
use Rattle.ppd_whole.proofs.processes.are_few.Goals as goal

pub len-requires : goal.len-requires
len-requires c = search rules depth 1 fits 30

pub loop-own-init : goal.loop-own-init
loop-own-init c = search rules depth 1 fits 30

pub loop-own-smaller : goal.loop-own-smaller
loop-own-smaller c = search rules depth 1 fits 30

pub returns-then-len-ge4294967296 : goal.returns-then-len-ge4294967296
returns-then-len-ge4294967296 c = search rules depth 1 fits 30
