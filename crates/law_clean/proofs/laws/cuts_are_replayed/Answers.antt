use Rattle.law_clean.proofs.Told.{cuts_replayed}
use Rattle.law_clean.proofs.laws.cuts_are_replayed.Goals as goal

pub returns : goal.returns
returns c = cuts_replayed
