use Rattle.ppd_sets.proofs.cells.+add_expr.Given as goal

abbrev pub decreases-add_expr : goal.decreases-add_expr
decreases-add_expr l = l.number
