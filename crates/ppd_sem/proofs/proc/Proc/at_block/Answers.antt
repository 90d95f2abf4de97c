use Rattle.std.proofs.Common.{◌≡◌, sym, subst, arith}
use Rattle.ppd_sem.specs.Blocks.{at_block}
use Rattle.ppd_sem.specs.Runs.{IsRunning}
use Rattle.ppd_sem.specs.declared.proc.Proc.{Proc}
use Rattle.ppd_sem.proofs.Begun.{at_block_runs}
use Rattle.ppd_sem.proofs.proc.Proc.at_block.Goals as goal

pub returns-clause-running : goal.returns-clause-running
returns-clause-running c =
    let program = c.args.program.now in
    let plan = c.args.plan.now in
    let is : c.begun.result ≡ at_block program plan c.args.block c.args.values.now c.args.depth c.args.budget = grind arith in
    subst (λ (s : Proc). IsRunning program s) (sym is) (at_block_runs program plan c.args.block c.args.values.now c.args.depth c.args.budget c.requires.program c.requires.plan c.requires.depth)
