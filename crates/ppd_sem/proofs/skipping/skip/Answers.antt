use Rattle.std.proofs.Common.{◌≡◌, sym, subst, arith, rules}
use Rattle.ppd_sem.specs.Blocks.{skipped}
use Rattle.ppd_sem.specs.Runs.{IsRunning}
use Rattle.ppd_sem.specs.declared.proc.Proc.{Proc}
use Rattle.ppd_sem.proofs.Skips.{skipped_runs}
use Rattle.ppd_sem.proofs.skipping.skip.Goals as goal

pub returns-clause-kept : goal.returns-clause-kept
returns-clause-kept c =
    let program = c.args.program.now in
    let plan = c.args.plan.now in
    let before : Proc = c.args.proc.now in
    let is : c.charge.new.proc ≡ skipped program plan c.args.values.now before = grind arith in
    subst (λ (s : Proc). IsRunning program s) (sym is) (skipped_runs program plan c.args.values.now before c.requires.proc c.requires.begins)

pub apply-requires : goal.apply-requires
apply-requires c = search rules depth 1 fits 30

pub charge-requires-clause-steps : goal.charge-requires-clause-steps
charge-requires-clause-steps c = search rules depth 1 fits 30

pub finish-requires : goal.finish-requires
finish-requires c = search rules depth 1 fits 30

pub look-need-requires : goal.look-need-requires
look-need-requires c = search rules depth 1 fits 30

pub returns-clause-skipped : goal.returns-clause-skipped
returns-clause-skipped c = search rules depth 1 fits 30
