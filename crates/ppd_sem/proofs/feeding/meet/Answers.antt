use Rattle.ppd_sem.specs.Process.{act}
use Rattle.ppd_sem.proofs.Kept.{act-runs, kept_by}
use Rattle.ppd_sem.proofs.feeding.meet.Goals as goal

pub returns-clause-kept : goal.returns-clause-kept
returns-clause-kept c =
    let program = c.args.program.now in
    let plan = c.args.plan.now in
    let before = c.args.proc.now in
    kept_by program c.step_of_head.result before c.step_of_head.new.proc (act program plan before c.args.answer.now) c.step_of_head.ensures.ok c.step_of_head.ensures.err c.requires.proc
    (act-runs program plan before c.args.answer.now c.requires.program c.requires.proc)
