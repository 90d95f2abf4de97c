use Rattle.std.proofs.Common.{FitsSigned, ap, rules, subst, sym, w64}
use Rattle.std.proofs.lemmas.Int.{to_z-of_z}
use Rattle.ppd_emul.specs.Turns.{Meets}
use Rattle.ppd_emul.proofs.Meeting.{nested_begins, sync_event}
use Rattle.ppd_model.specs.Replay.{step_with as step_with_of}
use Rattle.ppd_emul_values.specs.Emulated.{IsTurn, replaying}
use Rattle.ppd_model.specs.Pieces.{Piece, piece_of}
use Rattle.ppd_emul.proofs.stepping.step_with.Goals as goal

pub synchronize-requires-clause-next : goal.synchronize-requires-clause-next
synchronize-requires-clause-next g c = c.requires.next

pub synchronize-requires-clause-event : goal.synchronize-requires-clause-event
synchronize-requires-clause-event g c =
    sync_event c.args.code.now.program.now c.args.code.now.plan.now c.args.state.now.proc c.args.need _ _ _ _
    (subst (λ (p : Piece). Meets c.args.code.now c.args.state.now c.args.need p) (ap piece_of c.in-Sync.is) c.requires.meets)

pub skip_nested-requires-clause-next : goal.skip_nested-requires-clause-next
skip_nested-requires-clause-next g c = c.requires.next

pub skip_nested-requires-clause-begins : goal.skip_nested-requires-clause-begins
skip_nested-requires-clause-begins g c =
    nested_begins c.args.code.now.program.now c.args.code.now.plan.now c.args.state.now.proc c.args.need c.in-Nested.interval c.in-Nested.block c.in-Nested.values.now
    (subst (λ (p : Piece). Meets c.args.code.now c.args.state.now c.args.need p) (ap piece_of c.in-Nested.is) c.requires.meets)

pub stop_nested-requires : goal.stop_nested-requires
stop_nested-requires g c = c.requires.next

pub end_with_event-requires-clause-code : goal.end_with_event-requires-clause-code
end_with_event-requires-clause-code g c = c.requires.next.sound

pub end_with_event-requires-clause-state : goal.end_with_event-requires-clause-state
end_with_event-requires-clause-state g c = c.requires.next.going

pub end_with_event-requires-clause-few : goal.end_with_event-requires-clause-few
end_with_event-requires-clause-few g c = c.requires.next.few

pub returns-in-Unfinished : goal.returns-in-Unfinished
returns-in-Unfinished g c =
    subst (λ (p : Piece). IsTurn c.args.code.now c.args.state.now c.stop_nested.new.state c.args.steps.now c.stop_nested.new.steps c.stop_nested.result (step_with_of c.args.code.now.program.now c.args.code.now.plan.now c.args.need p (replaying c.args.state.now)))
    (sym (ap piece_of c.in-Unfinished.is)) c.stop_nested.ensures

pub returns-in-Nested : goal.returns-in-Nested
returns-in-Nested g c =
    subst (λ (p : Piece). IsTurn c.args.code.now c.args.state.now c.skip_nested.new.state c.args.steps.now c.skip_nested.new.steps c.skip_nested.result (step_with_of c.args.code.now.program.now c.args.code.now.plan.now c.args.need p (replaying c.args.state.now)))
    (sym (ap piece_of c.in-Nested.is)) c.skip_nested.ensures

pub returns-in-Sync : goal.returns-in-Sync
returns-in-Sync g c =
    let fits : FitsSigned w64 c.in-Sync.value = search rules in
    subst (λ (p : Piece). IsTurn c.args.code.now c.args.state.now c.synchronize.new.state c.args.steps.now c.synchronize.new.steps c.synchronize.result (step_with_of c.args.code.now.program.now c.args.code.now.plan.now c.args.need p (replaying c.args.state.now)))
    (sym (ap piece_of c.in-Sync.is)) (simp to_z-of_z at c.synchronize.ensures)
