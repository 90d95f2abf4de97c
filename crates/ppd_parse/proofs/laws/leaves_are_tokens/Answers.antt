use Rattle.std.proofs.Common.{◌∙◌}
use Rattle.ppd_parse.proofs.TreeLeaves.{program_leaves}
use Rattle.ppd_parse.proofs.laws.leaves_are_tokens.Goals as goal

pub returns : goal.returns
returns c = λ ts f t. program_leaves t.program ∙ t.tokens
