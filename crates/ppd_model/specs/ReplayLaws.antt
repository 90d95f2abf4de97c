-- Laws of replays, which hold of every program, plan, log and budget.
use Rattle.std.specs.Prelude.{◌≡◌, ℕ, ◌+◌, ◌<◌, ◌≤◌, ◌⊎◌, Option, Some, None, Err, ⊤}
use Rattle.ppd_ast.specs.declared.plan.Plan.{Plan}
use Rattle.ppd_ast.specs.declared.program.Program.{Program}
use Rattle.ppd_ast.specs.declared.status.Status.TheVariants as status
use Rattle.ppd_model.specs.IntervalLogs.{IntervalLog}
use Rattle.ppd_model.specs.declared.block_trace.EmulError.TheVariants.{Diverged}
use Rattle.ppd_model.specs.declared.wanted.Found.{Found}
use Rattle.ppd_model.specs.declared.wanted.Found.TheVariants as found
use Rattle.ppd_model.specs.declared.wanted.Wanted.{Wanted}
use Rattle.ppd_model.specs.declared.wanted.Wanted.TheVariants as wanted
use Rattle.ppd_model.specs.Replay.{Replaying, Replayed, Turn, more, done, turn, replay_from, replay}

-- the counter and the process count one step, which the process pays for within its budget
pub record IsOneStep (r next : Replaying) : Type 0 where
  pub steps : next.steps ≡ r.steps + 1
  pub process : next.proc.steps ≡ r.proc.steps + 1
  pub budget : next.proc.budget ≡ r.proc.budget
  pub paid : r.proc.spent < next.proc.spent
  pub within : next.proc.spent ≤ next.proc.budget

-- the counter counts one step more, which can be paid for, or none
abbrev pub IsLast : Replaying → Replayed → Type 0
IsLast r x = ((x.steps ≡ r.steps + 1) × (r.proc.spent < r.proc.budget)) ⊎ (x.steps ≡ r.steps)

-- a turn that goes on takes one step, and one that ends the replay one or none
abbrev pub TakesOneStep : Replaying → Turn → Type 0
TakesOneStep r (more next) = IsOneStep r next
TakesOneStep r (done x) = IsLast r x

-- each turn takes one step, and the last one takes one or none
abbrev pub TurnsAreSteps : Type 0
TurnsAreSteps = (program : Program) (plan : Plan) (r : Replaying) → TakesOneStep r (turn program plan r)

-- a replay takes no more steps than its budget has
abbrev pub ReplaysAreWithinBudget : Type 0
ReplaysAreWithinBudget =
    (program : Program) (plan : Plan) (l : IntervalLog) (budget : ℕ) → (replay program plan l budget).steps ≤ budget

-- two counts of turns that are both more than what is left of the budget come to the same
abbrev pub TurnsSuffice : Type 0
TurnsSuffice = (program : Program) (plan : Plan) (m n : ℕ) (r : Replaying) → r.proc.spent ≤ r.proc.budget
    → r.proc.budget < r.proc.spent + m → r.proc.budget < r.proc.spent + n
    → replay_from program plan m r ≡ replay_from program plan n r

-- ---- failures

-- what is wanted, as what is found; fewer steps are no piece
abbrev pub as_found : Wanted → Option Found
as_found (wanted.Unit u) = Some (found.Unit u)
as_found (wanted.Sync kind object value) = Some (found.Sync kind object value)
as_found (wanted.Nested b) = Some (found.Nested b)
as_found (wanted.Postlog values) = Some (found.Postlog values)
as_found (wanted.End how) = Some (found.End how)
as_found wanted.Fewer = None

-- the end by a trap
abbrev pub IsTrap : Wanted → Type 0
IsTrap (wanted.End (status.Trap t)) = ⊤
IsTrap w = ⊥

-- where a replay fails, what was found is not what was wanted, but where both are one trap
abbrev pub FailuresDiffer : Type 0
FailuresDiffer = (program : Program) (plan : Plan) (l : IntervalLog) (budget n : ℕ) (w : Wanted) (f : Found)
    → (replay program plan l budget).answer ≡ Err (Diverged n w f) → as_found w ≡ Some f → IsTrap w
