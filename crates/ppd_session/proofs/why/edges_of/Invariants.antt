use Rattle.ppd_session.proofs.why.edges_of.Given as goal

abbrev pub ghosts-edges_in : goal.ghosts-edges_in
ghosts-edges_in a = record { name = a.blank.name; parts = a.blank.parts }
