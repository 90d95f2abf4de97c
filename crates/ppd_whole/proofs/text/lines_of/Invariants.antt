use Rattle.ppd_whole.proofs.text.lines_of.Given as goal

abbrev pub ghosts-lines_from : goal.ghosts-lines_from
ghosts-lines_from a = record { name = a.blank.name; parts = a.blank.parts }
