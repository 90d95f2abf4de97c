use Rattle.std.proofs.Common.{◌≡◌, ◌+◌, ◌-◌, ◌≤◌}
use Rattle.ppd_emul_values.specs.Emulated.{IsGoing, replaying}
use Rattle.ppd_model.specs.Replay.{replay_from}
use Rattle.ppd_emul.proofs.emulating.run.Given as goal

abbrev pub invariant-loop-turn : goal.invariant-loop-turn
invariant-loop-turn g l = record {
  told : replay_from l.code.program.now l.code.plan.now (l.budget + 1 - l._turn) (replaying l.state)
      ≡ replay_from l.code.program.now l.code.plan.now (l.budget + 1) (replaying l.fn.state);
  going : IsGoing l.code l.state;
  few : l.state.steps ≤ l._turn;
  ticks : l.steps + l.fn.state.steps ≡ l.fn.steps + l.state.steps;
  turns : l.turns ≤ l.fn.turns + l.state.steps;
}
