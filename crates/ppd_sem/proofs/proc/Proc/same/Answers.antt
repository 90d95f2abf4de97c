use Rattle.ppd_sem.proofs.Printed.{printed_decide}
use Rattle.ppd_sem.proofs.proc.Proc.same.Goals as goal

pub returns : goal.returns
returns c = printed_decide c.args.self.now c.args.other.now _ _ c.same_unprinted.ensures c.eq.ensures
