use Rattle.std.proofs.Common.{length}
use Rattle.ppd_trace.proofs.reads.+push_tags.Given as goal

abbrev pub decreases-push_tags : goal.decreases-push_tags
decreases-push_tags g l = length l.reads.now
