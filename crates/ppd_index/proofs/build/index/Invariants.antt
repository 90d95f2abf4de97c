use Rattle.ppd_index.proofs.build.index.Given as goal

abbrev pub ghosts-index_from : goal.ghosts-index_from
ghosts-index_from a = record { name = a.blank.name; parts = a.blank.parts }
