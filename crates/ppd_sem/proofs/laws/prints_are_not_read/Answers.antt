use Rattle.ppd_sem.proofs.Printed.{not_read}
use Rattle.ppd_sem.proofs.laws.prints_are_not_read.Goals as goal

pub returns : goal.returns
returns c = not_read
