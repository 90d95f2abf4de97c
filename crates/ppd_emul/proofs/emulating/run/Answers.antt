use Rattle.std.proofs.Common.{rules, ◌≡◌, ◌+◌, ◌-◌, ◌∙◌, ◌≤◌, ◌<◌, ℕ, suc, Ok, Err, sym, subst, arith}
use Rattle.std.proofs.lemmas.Result.{err_from_is_err_and}
use Rattle.ppd_model.specs.Replay.{Replayed, Replaying, done, more, replay_from, turn}
use Rattle.ppd_emul_values.specs.Emulated.{replaying, turned}
use Rattle.ppd_emul_values.specs.declared.replayer.Turned.{Turned}
use Rattle.ppd_emul.proofs.Followed.{done_now, failed_so, more_next}
use Rattle.ppd_emul.proofs.Spent.{none_back, one_more}
use Rattle.ppd_emul.proofs.emulating.run.Goals as goal
use Rattle.std.proofs.lemmas.Grind.{elements}

pub returns-in_err-turn-clause-told : goal.returns-in_err-turn-clause-told
returns-in_err-turn-clause-told g c =
    let program = c.args.code.now.program.now in
    let plan = c.args.code.now.plan.now in
    let budget : ℕ = c.args.budget in
    let x : Replayed = record { steps = c.turn.new.state.steps; answer = Err c.in_err-turn.field-0.0 } in
    let end : c.from-turn-end.result ≡ budget = c.from-turn-end.ensures in
    let turns : budget + 1 - c.loop-turn._turn ≡ suc (budget - c.loop-turn._turn) = omega arith in
    let p = err_from_is_err_and c.from_residual.result c.from_residual.ensures.1 in
    rw (p.1, p.2) (failed_so c.in_err-turn.field-0.0
    (done x ≡ turn program plan (replaying c.loop-turn.state))
    (x ≡ replay_from program plan (budget + 1) (replaying c.args.state.now))
    (λ h. sym (done_now program plan (budget + 1 - c.loop-turn._turn) (budget - c.loop-turn._turn) (replaying c.loop-turn.state) x turns h) ∙ c.loop-turn.invariant.told)
    c.in_err-turn.ensures.told)

pub returns-in-Done-clause-turns : goal.returns-in-Done-clause-turns
returns-in-Done-clause-turns g c =
    let program = c.args.code.now.program.now in
    let plan = c.args.code.now.plan.now in
    let x : Replayed = record { steps = c.turn.new.state.steps; answer = Ok (record { items = c.turn.new.state.items }) } in
    let told : done x ≡ turn program plan (replaying c.loop-turn.state) =
    subst (λ (d : Turned). turned (Ok d) c.turn.new.state ≡ turn program plan (replaying c.loop-turn.state)) c.in-Done.is c.in_ok-turn.ensures.told in
    let back = none_back program plan (replaying c.loop-turn.state) x told in
    omega (arith, back, c.tick.ensures, c.loop-turn.invariant.turns)

pub returns-in_err-turn-clause-turns : goal.returns-in_err-turn-clause-turns
returns-in_err-turn-clause-turns g c =
    let program = c.args.code.now.program.now in
    let plan = c.args.code.now.plan.now in
    let x : Replayed = record { steps = c.turn.new.state.steps; answer = Err c.in_err-turn.field-0.0 } in
    let p = err_from_is_err_and c.from_residual.result c.from_residual.ensures.1 in
    rw (p.1, p.2) (failed_so c.in_err-turn.field-0.0
    (done x ≡ turn program plan (replaying c.loop-turn.state))
    (c.tick.new.self ≤ c.args.turns.now + c.turn.new.state.steps + 1)
    (λ h. let back = none_back program plan (replaying c.loop-turn.state) x h in omega (arith, back, c.tick.ensures, c.loop-turn.invariant.turns))
    c.in_err-turn.ensures.told)

pub loop-turn-preserved : goal.loop-turn-preserved
loop-turn-preserved g c =
    let program = c.args.code.now.program.now in
    let plan = c.args.code.now.plan.now in
    let budget : ℕ = c.args.budget in
    let now : Replaying = replaying c.turn.new.state in
    let told : more now ≡ turn program plan (replaying c.loop-turn.state) =
    subst (λ (d : Turned). turned (Ok d) c.turn.new.state ≡ turn program plan (replaying c.loop-turn.state)) c.in-More.is c.in_ok-turn.ensures.told in
    let one = one_more program plan (replaying c.loop-turn.state) now told in
    let end : c.from-turn-end.result ≡ budget = c.from-turn-end.ensures in
    let below : c.loop-turn._turn < c.from-turn-end.result + 1 = c.loop-turn-test.true in
    let turns : budget + 1 - c.loop-turn._turn ≡ suc (budget + 1 - (c.loop-turn._turn + 1)) = omega arith in
    record {
      told = sym (more_next program plan (budget + 1 - c.loop-turn._turn) (budget + 1 - (c.loop-turn._turn + 1)) (replaying c.loop-turn.state) now turns told) ∙ c.loop-turn.invariant.told;
      going = search rules;
      few = omega (arith, one, c.loop-turn.invariant.few);
      ticks = omega (arith, c.in_ok-turn.ensures.ticks, c.loop-turn.invariant.ticks);
      turns = omega (arith, one, c.tick.ensures, c.loop-turn.invariant.turns);
    }

pub fail-requires : goal.fail-requires
fail-requires c = search rules depth 1 fits 30

pub from-turn-end-requires : goal.from-turn-end-requires
from-turn-end-requires c = search rules depth 1 fits 30

pub loop-turn-init : goal.loop-turn-init
loop-turn-init c = search rules depth 1 fits 30

pub loop-turn-smaller : goal.loop-turn-smaller
loop-turn-smaller c = search rules depth 1 fits 30

pub returns : goal.returns
returns c = grind (arith, elements) steps 250000

pub returns-in-Done-clause-ticks : goal.returns-in-Done-clause-ticks
returns-in-Done-clause-ticks c = search rules depth 1 fits 30

pub returns-in_err-turn-clause-ticks : goal.returns-in_err-turn-clause-ticks
returns-in_err-turn-clause-ticks c = search rules depth 1 fits 30

pub tick-requires : goal.tick-requires
tick-requires c = search rules depth 1 fits 30

pub turn-requires : goal.turn-requires
turn-requires c = search rules depth 1 fits 30
