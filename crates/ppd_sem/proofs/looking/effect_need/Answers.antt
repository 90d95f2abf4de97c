use Rattle.std.proofs.Common.{◌≡◌, [], None, subst, sym}
use Rattle.ppd_sem.specs.Effects.{head_deed_of}
use Rattle.ppd_sem.specs.Process.{need_of_deed}
use Rattle.ppd_sem.proofs.looking.effect_need.Goals as goal

pub returns-in-Invoke : goal.returns-in-Invoke
returns-in-Invoke c =
    let program = c.args.program.now in
    subst (λ e. c.call_need.result ≡ need_of_deed program c.args.plan.now c.args.todo.stmt c.args.proc.now (head_deed_of program c.args.todo c.args.proc.now e))
    (sym c.in-Invoke.is) (c.call_need.ensures program c.args.todo.stmt [] None)
