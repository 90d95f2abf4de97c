use Rattle.ppd_race.proofs.search.races.Given as goal

abbrev pub ghosts-races_from_blank : goal.ghosts-races_from_blank
ghosts-races_from_blank a = λ b. record { name = b.blank.name; parts = b.blank.parts }
