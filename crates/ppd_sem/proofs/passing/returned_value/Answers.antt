use Rattle.std.proofs.Common.{rules}
use Rattle.ppd_sem.proofs.Running.{head_found}
use Rattle.ppd_sem.proofs.passing.returned_value.Goals as goal

pub head_result-requires : goal.head_result-requires
head_result-requires c = head_found c.args.program.now c.args.proc.now c.in-Some.todo c.requires.program c.requires.proc (search rules)
