use Rattle.ppd_sem.proofs.reading.+push_reads.Given as goal

abbrev pub decreases-push_reads : goal.decreases-push_reads
decreases-push_reads l = l.at
