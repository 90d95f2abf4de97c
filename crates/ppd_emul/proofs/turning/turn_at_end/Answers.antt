use Rattle.std.proofs.Common.{Bool, Some, ap, subst, sym, ◌∙◌, rules, arith}
use Rattle.std.specs.Prelude.{if◌then◌else◌}
use Rattle.ppd_ast.specs.declared.status.Status.{Status}
use Rattle.ppd_ast.specs.declared.status.Status.TheVariants as status
use Rattle.ppd_emul.proofs.Ending.{blocked, ends, no_trap, stays, trap_ends}
use Rattle.ppd_model.specs.Replay.{Turn, finished, goes_on as goes_on_of, turn_by_end as turn_by_end_of}
use Rattle.ppd_emul_values.specs.Emulated.{IsTurn, replaying}
use Rattle.ppd_sem.specs.declared.proc.Need.{Need}
use Rattle.ppd_emul.proofs.turning.turn_at_end.Goals as goal
use Rattle.std.proofs.lemmas.Grind.{common_steps}

pub end_with_event-requires-clause-code : goal.end_with_event-requires-clause-code
end_with_event-requires-clause-code g c = c.requires.next.sound

pub end_with_event-requires-clause-state : goal.end_with_event-requires-clause-state
end_with_event-requires-clause-state g c = c.requires.next.going

pub end_with_event-requires-clause-few : goal.end_with_event-requires-clause-few
end_with_event-requires-clause-few g c = c.requires.next.few

pub returns-then-is_sync : goal.returns-then-is_sync
returns-then-is_sync g c =
    let program = c.args.code.now.program.now in
    let plan = c.args.code.now.plan.now in
    let r = replaying c.args.state.now in
    ends c.args.code.now c.args.state.now c.args.steps.now (turn_by_end_of program plan (Some c.args.status) c.args.need r)
    (ap (λ (b : Bool). if b then finished r else goes_on_of program plan c.args.need r) (sym c.if-is_sync.true ∙ c.is_sync.ensures) ∙ blocked program plan r c.args.need c.requires.paid
    ∙ ap (λ (s : Status). turn_by_end_of program plan (Some s) c.args.need r) (sym c.in-Blocked.is))

pub returns-else-is_sync : goal.returns-else-is_sync
returns-else-is_sync g c =
    let program = c.args.code.now.program.now in
    let plan = c.args.code.now.plan.now in
    let r = replaying c.args.state.now in
    stays c.args.code.now c.args.state.now c.args.steps.now c.goes_on.result (goes_on_of program plan c.args.need r) (turn_by_end_of program plan (Some c.args.status) c.args.need r)
    (ap (λ (b : Bool). if b then finished r else goes_on_of program plan c.args.need r) (sym c.if-is_sync.false ∙ c.is_sync.ensures) ∙ blocked program plan r c.args.need c.requires.paid
    ∙ ap (λ (s : Status). turn_by_end_of program plan (Some s) c.args.need r) (sym c.in-Blocked.is))
    c.goes_on.ensures

pub returns-then-is_same_trap : goal.returns-then-is_same_trap
returns-then-is_same_trap g c =
    let program = c.args.code.now.program.now in
    let plan = c.args.code.now.plan.now in
    let r = replaying c.args.state.now in
    subst (λ (t : Turn). IsTurn c.args.code.now c.args.state.now c.end_with_event.new.state c.args.steps.now c.end_with_event.new.steps c.end_with_event.result t)
    (trap_ends program plan r c.in-Trap.trap c.in-Trap-need.found (sym c.is_same_trap.ensures ∙ c.if-is_same_trap.true)
    ∙ ap (λ (n : Need). turn_by_end_of program plan (Some (status.Trap c.in-Trap.trap)) n r) (sym c.in-Trap-need.is)
    ∙ ap (λ (s : Status). turn_by_end_of program plan (Some s) c.args.need r) (sym c.in-Trap.is))
    c.end_with_event.ensures

pub returns-in_default : goal.returns-in_default
returns-in_default g c =
    let program = c.args.code.now.program.now in
    let plan = c.args.code.now.plan.now in
    let r = replaying c.args.state.now in
    stays c.args.code.now c.args.state.now c.args.steps.now c.goes_on-in_default.result (goes_on_of program plan c.args.need r) (turn_by_end_of program plan (Some c.args.status) c.args.need r)
    (no_trap program plan r c.in-Trap.trap c.args.need c.in_default.not-Trap c.requires.paid ∙ ap (λ (s : Status). turn_by_end_of program plan (Some s) c.args.need r) (sym c.in-Trap.is))
    c.goes_on-in_default.ensures

pub end_with_event-requires-clause-event : goal.end_with_event-requires-clause-event
end_with_event-requires-clause-event c = search rules depth 1 fits 30

pub fail-requires : goal.fail-requires
fail-requires c = search rules depth 1 fits 30

pub goes_on-requires : goal.goes_on-requires
goes_on-requires c = search rules depth 1 fits 30

pub goes_on-requires-in-Ended : goal.goes_on-requires-in-Ended
goes_on-requires-in-Ended c = search rules depth 1 fits 30

pub goes_on-requires-in_default : goal.goes_on-requires-in_default
goes_on-requires-in_default c = search rules depth 1 fits 30

pub is_same_trap-requires : goal.is_same_trap-requires
is_same_trap-requires c = search rules depth 1 fits 30

pub is_sync-requires : goal.is_sync-requires
is_sync-requires c = search rules depth 1 fits 30

pub returns-else-is_same_trap : goal.returns-else-is_same_trap
returns-else-is_same_trap c = grind (arith, common_steps) steps 250000
