use Rattle.ppd_session.proofs.lasts.last_of.Given as goal

abbrev pub ghosts-last_in : goal.ghosts-last_in
ghosts-last_in a = record { name = a.blank.name; parts = a.blank.parts }
