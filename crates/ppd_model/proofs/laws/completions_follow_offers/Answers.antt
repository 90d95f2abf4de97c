use Rattle.ppd_model.proofs.laws.completions_follow_offers.Goals as goal
use Rattle.ppd_model.proofs.Rendezvous.{channels_in_turn, completions_offered}

pub returns-clause-counts : goal.returns-clause-counts
returns-clause-counts c = channels_in_turn

pub returns-clause-completions : goal.returns-clause-completions
returns-clause-completions c = completions_offered
