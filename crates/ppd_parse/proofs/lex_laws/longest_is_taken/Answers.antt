use Rattle.ppd_parse.proofs.Longest.{longest}
use Rattle.ppd_parse.proofs.lex_laws.longest_is_taken.Goals as goal

pub returns : goal.returns
returns c = longest
