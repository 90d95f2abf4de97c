use Rattle.ppd_parse.proofs.Between.{apart}
use Rattle.ppd_parse.proofs.lex_laws.gaps_are_blank.Goals as goal

pub returns : goal.returns
returns c = apart
