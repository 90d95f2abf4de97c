use Rattle.std.proofs.Common.{◌+◌, ◌≤◌, ap, sym, subst, ◌∙◌, arith}
use Rattle.ppd_sem.specs.Process.{todos}
use Rattle.ppd_sem.specs.Runs.{IsRunning}
use Rattle.ppd_sem.specs.declared.proc.Proc.{Proc}
use Rattle.ppd_sem.proofs.Starts.{started_like}
use Rattle.ppd_sem.proofs.proc.Proc.start.Goals as goal

pub returns-clause-running : goal.returns-clause-running
returns-clause-running c =
    let program = c.args.program.now in
    let body = program.functions + c.args.process in
    let from : program.functions ≤ body = omega arith in
    subst (λ (s : Proc). IsRunning program s) (sym c.begun.ensures) (started_like program body c.args.budget _ _ _ _ c.requires.program from c.requires.process c.in_ok-frames.ensures (c.in_ok-todo.ensures ∙ ap todos c.top_at.ensures))
