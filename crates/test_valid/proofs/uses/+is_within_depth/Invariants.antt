use Rattle.test_valid.proofs.uses.+is_within_depth.Given as goal

abbrev pub decreases-is_within_depth : goal.decreases-is_within_depth
decreases-is_within_depth l = l.depth
