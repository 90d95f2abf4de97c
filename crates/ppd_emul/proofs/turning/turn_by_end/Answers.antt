use Rattle.std.proofs.Common.{Option, None, ap, subst, sym, ◌∙◌}
use Rattle.ppd_ast.specs.declared.status.Status.{Status}
use Rattle.ppd_emul.proofs.Meeting.{wanted_turn, within_budget}
use Rattle.ppd_model.specs.Replay.{Turn, turn_by_end as turn_by_end_of}
use Rattle.ppd_emul_values.specs.Emulated.{IsTurn, replaying}
use Rattle.ppd_emul.proofs.turning.turn_by_end.Goals as goal

pub turn_by_wanted-requires-clause-next : goal.turn_by_wanted-requires-clause-next
turn_by_wanted-requires-clause-next g c = c.requires

pub turn_by_wanted-requires-clause-paid : goal.turn_by_wanted-requires-clause-paid
turn_by_wanted-requires-clause-paid g c = within_budget c.args.need c.in_default-need.not-Budget

pub turn_at_end-requires-clause-next : goal.turn_at_end-requires-clause-next
turn_at_end-requires-clause-next g c = c.requires

pub turn_at_end-requires-clause-paid : goal.turn_at_end-requires-clause-paid
turn_at_end-requires-clause-paid g c = within_budget c.args.need c.in_default-need.not-Budget

pub returns-in-None : goal.returns-in-None
returns-in-None g c =
    subst (λ (h : Option Status). IsTurn c.args.code.now c.args.state.now c.turn_by_wanted.new.state c.args.steps.now c.turn_by_wanted.new.steps c.turn_by_wanted.result (turn_by_end_of c.args.code.now.program.now c.args.code.now.plan.now h c.args.need (replaying c.args.state.now)))
    (sym c.in-None.is)
    (subst (λ (t : Turn). IsTurn c.args.code.now c.args.state.now c.turn_by_wanted.new.state c.args.steps.now c.turn_by_wanted.new.steps c.turn_by_wanted.result t)
    (wanted_turn c.args.code.now.program.now c.args.code.now.plan.now (replaying c.args.state.now) c.args.need c.in_default-need.not-Budget) c.turn_by_wanted.ensures)
