use Rattle.std.proofs.Common.{rules}
use Rattle.ppd_sem.proofs.Running.{head_found}
use Rattle.ppd_sem.proofs.looking.look.Goals as goal

pub head_need-requires-clause-head : goal.head_need-requires-clause-head
head_need-requires-clause-head c = head_found c.args.program.now c.args.proc.now c.in-Some.todo c.requires.program c.requires.proc (search rules)
