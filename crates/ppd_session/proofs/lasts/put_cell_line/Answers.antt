use Rattle.std.proofs.Common.{inr}
use Rattle.ppd_session.proofs.Keeping.{on_err}
use Rattle.ppd_session.proofs.Replayed.{on_ok}
use Rattle.ppd_session.proofs.lasts.put_cell_line.Goals as goal

pub returns-clause-kept : goal.returns-clause-kept
returns-clause-kept c = on_ok c.put_line.result c.in_ok-found.ensures.kept

pub returns-clause-part : goal.returns-clause-part
returns-clause-part c = on_err c.put_line.result (inr c.in_ok-found.ensures.kept)
