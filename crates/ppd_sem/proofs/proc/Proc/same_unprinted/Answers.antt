use Rattle.ppd_sem.proofs.Same.{frames_decide, processes_decide}
use Rattle.ppd_sem.proofs.proc.Proc.same_unprinted.Goals as goal

pub is_same-requires : goal.is_same-requires
is_same-requires c = frames_decide

pub returns : goal.returns
returns c = processes_decide c.args.self.now c.args.other.now _ _ _ _ c.is_same.ensures c.is_same-2.ensures c.eq.ensures c.is_same_status.ensures
