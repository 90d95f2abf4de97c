use Rattle.law_clean.proofs.AcceptedCuts.{cuts_accepted}
use Rattle.law_clean.proofs.laws.cuts_are_accepted.Goals as goal

pub returns : goal.returns
returns c program plan last logs ok = cuts_accepted program plan last 0 logs.lists ok
