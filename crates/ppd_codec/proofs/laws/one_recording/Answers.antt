use Rattle.ppd_codec.proofs.Spelling.{no_recording_is_bad, one_reading, one_spelling}
use Rattle.ppd_codec.proofs.laws.one_recording.Goals as goal

pub returns-clause-spelling : goal.returns-clause-spelling
returns-clause-spelling c = one_spelling

pub returns-clause-reading : goal.returns-clause-reading
returns-clause-reading c = one_reading

pub returns-clause-good : goal.returns-clause-good
returns-clause-good c = no_recording_is_bad
