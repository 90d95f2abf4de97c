use Rattle.std.proofs.Common.{rules}
use Rattle.ppd_sem.proofs.Running.{head_found}
use Rattle.ppd_sem.proofs.passing.call_values.Goals as goal

pub head_arguments-requires : goal.head_arguments-requires
head_arguments-requires c = head_found c.args.program.now c.args.proc.now c.in-Some.todo c.requires.program c.requires.proc (search rules)
