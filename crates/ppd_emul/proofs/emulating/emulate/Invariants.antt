use Rattle.ppd_emul.proofs.emulating.emulate.Given as goal

abbrev pub ghosts-emulate_from : goal.ghosts-emulate_from
ghosts-emulate_from g a = record { name = a.blank.name; parts = a.blank.parts }
