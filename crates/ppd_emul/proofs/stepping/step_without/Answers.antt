use Rattle.std.proofs.Common.{subst, sym}
use Rattle.ppd_emul.proofs.Meeting.{alone_without, free_event}
use Rattle.ppd_model.specs.Replay.{Turn, step_without as step_without_of}
use Rattle.ppd_emul_values.specs.Emulated.{IsAtNeed, IsTurn, replaying}
use Rattle.ppd_sem.specs.declared.proc.Need.{Need}
use Rattle.ppd_emul.proofs.stepping.step_without.Goals as goal

pub read-requires : goal.read-requires
read-requires g c = subst (λ (n : Need). IsAtNeed c.args.code.now c.args.state.now n) c.in-Read.is c.requires.next

pub step_alone-requires-clause-next : goal.step_alone-requires-clause-next
step_alone-requires-clause-next g c = c.requires.next

pub step_alone-requires-clause-event : goal.step_alone-requires-clause-event
step_alone-requires-clause-event g c =
    free_event c.args.code.now.program.now c.args.code.now.plan.now c.args.state.now.proc c.args.need c.in_default.not-Read c.in_default.not-Stopped c.requires.free c.requires.paid

pub returns-in-Read : goal.returns-in-Read
returns-in-Read g c =
    subst (λ (n : Need). IsTurn c.args.code.now c.args.state.now c.read.new.state c.args.steps.now c.read.new.steps c.read.result (step_without_of c.args.code.now.program.now c.args.code.now.plan.now n (replaying c.args.state.now)))
    (sym c.in-Read.is) c.read.ensures

pub returns-in_default : goal.returns-in_default
returns-in_default g c =
    subst (λ (t : Turn). IsTurn c.args.code.now c.args.state.now c.step_alone.new.state c.args.steps.now c.step_alone.new.steps c.step_alone.result t)
    (alone_without c.args.code.now.program.now c.args.code.now.plan.now (replaying c.args.state.now) c.args.need c.in_default.not-Read c.in_default.not-Stopped) c.step_alone.ensures
