use Rattle.ppd_session.proofs.opening.replay.Given as goal

abbrev pub ghosts-replayed_in : goal.ghosts-replayed_in
ghosts-replayed_in a = record { name = a.blank.name; parts = a.blank.parts }
