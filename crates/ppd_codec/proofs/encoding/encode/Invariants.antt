use Rattle.ppd_codec.proofs.encoding.encode.Given as goal

abbrev pub ghosts-encode_from : goal.ghosts-encode_from
ghosts-encode_from a = record { name = a.blank.name; parts = a.blank.parts }
