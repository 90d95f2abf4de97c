use Rattle.ppd_whole.proofs.answer.whole_alone.Given as goal

abbrev pub ghosts-whole_from : goal.ghosts-whole_from
ghosts-whole_from a = record { name = a.blank.name; parts = a.blank.parts }
