use Rattle.ppd_parse.proofs.reading.parse.Given as goal

abbrev pub ghosts-parse_from : goal.ghosts-parse_from
ghosts-parse_from a = record { name = a.blank.name; parts = a.blank.parts }
