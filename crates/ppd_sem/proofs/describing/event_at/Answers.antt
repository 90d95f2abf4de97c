use Rattle.ppd_sem.proofs.Running.{head_is}
use Rattle.ppd_sem.proofs.describing.event_at.Goals as goal

pub step_reads-requires : goal.step_reads-requires
step_reads-requires c =
    head_is c.args.program.now c.args.proc.now c.args.todo c.requires.program c.requires.proc c.requires.head

pub head_writes-requires-clause-head : goal.head_writes-requires-clause-head
head_writes-requires-clause-head c =
    head_is c.args.program.now c.args.proc.now c.args.todo c.requires.program c.requires.proc c.requires.head

pub step_value-requires : goal.step_value-requires
step_value-requires c =
    head_is c.args.program.now c.args.proc.now c.args.todo c.requires.program c.requires.proc c.requires.head
