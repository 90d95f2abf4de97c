use Rattle.std.proofs.Common.{rules}
use Rattle.ppd_sem.proofs.Same.{stacks_decide}
use Rattle.ppd_sem.proofs.stack.Stack.is_same.Goals as goal

pub returns : goal.returns
returns g c = search (rules, stacks_decide)
