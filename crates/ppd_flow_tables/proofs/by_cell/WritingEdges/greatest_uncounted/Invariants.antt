use Rattle.ppd_flow_tables.proofs.by_cell.WritingEdges.greatest_uncounted.Given as goal

abbrev pub ghosts-greatest_from : goal.ghosts-greatest_from
ghosts-greatest_from a = record { name = a.blank.name; parts = a.blank.parts }
