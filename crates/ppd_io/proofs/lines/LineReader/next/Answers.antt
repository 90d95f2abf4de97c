use Rattle.ppd_io.proofs.Lining.{told}
use Rattle.ppd_io.proofs.lines.LineReader.next.Goals as goal

pub returns-clause-told : goal.returns-clause-told
returns-clause-told g c = λ open_still. told _ _ _ _ _ (c.advance.ensures.given open_still)
