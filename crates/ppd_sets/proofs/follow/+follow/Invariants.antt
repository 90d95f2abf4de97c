use Rattle.ppd_sets.proofs.follow.+follow.Given as goal

abbrev pub decreases-follow : goal.decreases-follow
decreases-follow l = l.depth
