-- A replay ends by a turn of its own, and never for want of turns.
use Rattle.std.specs.Prelude.{◌≡◌, ℕ, ◌+◌, ◌<◌, ◌≤◌, Some}
use Rattle.ppd_ast.specs.declared.plan.Plan.{Plan}
use Rattle.ppd_ast.specs.declared.program.Program.{Program}
use Rattle.ppd_model.specs.IntervalLogs.{IntervalLog}
use Rattle.ppd_sem.specs.Blocks.{block_kind, block_unit}
use Rattle.ppd_model.specs.Replay.{Replaying, Replayed, Turn, more, done, begun_replay, replay, replay_from, take_unit, turn}

-- from here some turns go on, and the one after them ends the replay so
pub data IsEndedBy (program : Program) (plan : Plan) : Replaying → Replayed → Type 0 where
  now : {r : Replaying} {x : Replayed} → turn program plan r ≡ done x → IsEndedBy program plan r x
  later : {r next : Replaying} {x : Replayed} → turn program plan r ≡ more next
      → IsEndedBy program plan next x → IsEndedBy program plan r x

-- it is over with this, or goes on and ends by a turn
abbrev pub IsOverBy : Program → Plan → Turn → Replayed → Type 0
IsOverBy program plan (done y) x = y ≡ x
IsOverBy program plan (more r) x = IsEndedBy program plan r x

-- more turns than what is left of the budget end by one of them
abbrev pub TurnsEnd : Type 0
TurnsEnd = (program : Program) (plan : Plan) (turns : ℕ) (r : Replaying) → r.proc.spent ≤ r.proc.budget
    → r.proc.budget < r.proc.spent + turns → IsEndedBy program plan r (replay_from program plan turns r)

-- so a replay is over with its first unit, or ends by a turn
abbrev pub ReplaysEndByTurns : Type 0
ReplaysEndByTurns = (program : Program) (plan : Plan) (l : IntervalLog) (budget : ℕ)
    → IsOverBy program plan (take_unit plan (Some (block_unit plan (block_kind plan l.block)))
    (begun_replay program plan l budget)) (replay program plan l budget)
