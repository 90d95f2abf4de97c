use Rattle.test_valid.proofs.cells.+does_name_whole.Given as goal

abbrev pub decreases-does_name_whole : goal.decreases-does_name_whole
decreases-does_name_whole l = l.number
