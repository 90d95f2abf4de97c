use Rattle.ppd_check.proofs.Excluded.{program_unique, read_or_refused}
use Rattle.ppd_check.proofs.laws.one_answer.Goals as goal

pub returns-clause-program : goal.returns-clause-program
returns-clause-program c = program_unique

pub returns-clause-refused : goal.returns-clause-refused
returns-clause-refused c = read_or_refused
