use Rattle.std.proofs.Common.{rules}
use Rattle.ppd_sem.proofs.Running.{head_found}
use Rattle.ppd_sem.proofs.passing.next_effect.Goals as goal

pub effect_of_head-requires : goal.effect_of_head-requires
effect_of_head-requires c = head_found c.args.program.now c.args.proc.now c.in-Some.todo c.requires.program c.requires.proc (search rules)
