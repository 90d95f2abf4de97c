use Rattle.ppd_session.proofs.lasts.last_told.Given as goal

abbrev pub ghosts-last_told_in : goal.ghosts-last_told_in
ghosts-last_told_in a = record { name = a.blank.name; parts = a.blank.parts }
