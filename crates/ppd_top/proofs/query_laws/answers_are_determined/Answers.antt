use Rattle.ppd_top.proofs.Determined.{answers_are_determined, failed_are_missing}
use Rattle.ppd_top.proofs.query_laws.answers_are_determined.Goals as goal

pub returns-clause-answers : goal.returns-clause-answers
returns-clause-answers c = answers_are_determined

pub returns-clause-missing : goal.returns-clause-missing
returns-clause-missing c = failed_are_missing
