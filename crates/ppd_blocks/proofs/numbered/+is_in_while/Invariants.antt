use Rattle.ppd_blocks.proofs.numbered.+is_in_while.Given as goal

abbrev pub decreases-is_in_while : goal.decreases-is_in_while
decreases-is_in_while l = l.depth
