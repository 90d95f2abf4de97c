-- The parts of a step of a trace that need no activation.
use Rattle.std.specs.Prelude.{List, [], ◌∷◌, ◌++◌}
use Rattle.ppd_sem.specs.declared.proc.Need.{Need}
use Rattle.ppd_sem.specs.declared.proc.Need.TheVariants.{Read}
use Rattle.ppd_model.specs.FullTrace.{Tag}

-- the tags of the answers after a step that is no event: a read has one more
abbrev pub answers_by : Need → Tag → List Tag → List Tag
answers_by (Read c) writer answers = answers ++ writer ∷ []
answers_by need writer answers = answers
