use Rattle.ppd_race.proofs.search.own_races.Given as goal

abbrev pub ghosts-own_races_from : goal.ghosts-own_races_from
ghosts-own_races_from a = record { name = a.blank.name; parts = a.blank.parts }
