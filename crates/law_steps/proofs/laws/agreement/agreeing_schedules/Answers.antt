use Rattle.law_steps.proofs.laws.agreement.agreeing_schedules.Goals as goal
use Rattle.law_steps.proofs.Agreeing.{agreeing_histories, agreeing_races, agreeing_stories}

pub returns-clause-stories : goal.returns-clause-stories
returns-clause-stories c = agreeing_stories

pub returns-clause-histories : goal.returns-clause-histories
returns-clause-histories c = agreeing_histories

pub returns-clause-races : goal.returns-clause-races
returns-clause-races c = agreeing_races
