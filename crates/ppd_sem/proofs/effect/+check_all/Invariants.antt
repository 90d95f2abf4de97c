use Rattle.std.proofs.Common.{length}
use Rattle.ppd_sem.proofs.effect.+check_all.Given as goal

abbrev pub decreases-check_all : goal.decreases-check_all
decreases-check_all l = length l.arguments.now
