use Rattle.ppd_blocks.proofs.ways.+does_stand_in.Given as goal

abbrev pub decreases-does_stand_in : goal.decreases-does_stand_in
decreases-does_stand_in l = l.depth
