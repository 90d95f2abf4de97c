use Rattle.ppd_parse.proofs.Unique.{tokens_unique, refusal_unique, read_or_refused}
use Rattle.ppd_parse.proofs.Covered.{read_or_faulty}
use Rattle.ppd_parse.proofs.lex_laws.one_list_of_tokens.Goals as goal

pub returns-clause-reading : goal.returns-clause-reading
returns-clause-reading c = tokens_unique

pub returns-clause-fault : goal.returns-clause-fault
returns-clause-fault c = refusal_unique

pub returns-clause-refused : goal.returns-clause-refused
returns-clause-refused c = read_or_refused

pub returns-clause-some : goal.returns-clause-some
returns-clause-some c = read_or_faulty
