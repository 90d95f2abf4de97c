use Rattle.test_valid.proofs.uses.+operators.Given as goal

abbrev pub decreases-operators : goal.decreases-operators
decreases-operators l = l.number
