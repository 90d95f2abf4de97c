use Rattle.ppd_rerun_guide.proofs.Verdicts.{reruns_say_yes, verdicts_are_one}
use Rattle.ppd_rerun_guide.proofs.laws.reruns_say_yes.Goals as goal

pub returns-clause-one : goal.returns-clause-one
returns-clause-one c = verdicts_are_one

pub returns-clause-yes : goal.returns-clause-yes
returns-clause-yes c = reruns_say_yes
