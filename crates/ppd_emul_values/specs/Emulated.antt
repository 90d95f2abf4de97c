-- What the parts of a replay answer.
use Rattle.std.specs.Prelude.{◌≡◌, ℕ, ◌+◌, ◌<◌, ◌≤◌, ◌^◌, ℤ, List, Result, Ok, Err, ⊤, Some}
use Rattle.ppd_ast.specs.declared.plan.Plan.{Plan}
use Rattle.ppd_ast.specs.declared.program.Program.{Program}
use Rattle.ppd_sem.specs.Blocks.{skipped, unit_past}
use Rattle.ppd_sem.specs.Process.{need_of}
use Rattle.ppd_sem.specs.Runs.{IsNumbered, IsRunnable, IsRunning}
use Rattle.ppd_sem.specs.declared.proc.Need.{Need}
use Rattle.ppd_emul_values.specs.declared.replayer.Code.{Code}
use Rattle.ppd_emul_values.specs.declared.replayer.Replayer.{Replayer}
use Rattle.ppd_emul_values.specs.declared.replayer.Turned.{Turned}
use Rattle.ppd_emul_values.specs.declared.replayer.Turned.TheVariants.{More, Done}
use Rattle.ppd_model.specs.declared.block_trace.EmulError.{EmulError}
use Rattle.ppd_model.specs.declared.block_trace.EmulError.TheVariants.{Memory}
use Rattle.ppd_model.specs.Replay.{Replaying, Turn, more, done, counted, past_piece, take_unit}

-- ---- states

-- the replay as it stands
abbrev pub replaying : Replayer → Replaying
replaying x = record {
  proc = x.proc;
  in_force = x.in_force;
  pieces = x.pieces;
  since = x.since;
  steps = x.steps;
  items = x.items;
}

-- the processes of the program can run, and the plan's numbers have 16 bits
pub record IsSound (code : Code) : Type 0 where
  pub program : IsRunnable code.program.now
  pub plan : IsNumbered code.plan.now

-- the process is one of the program, and the steps since the last piece are among all
pub record IsGoing (code : Code) (x : Replayer) : Type 0 where
  pub running : IsRunning code.program.now x.proc
  pub since : x.since ≤ x.steps

-- a step can follow, and it needs this
pub record IsAtNeed (code : Code) (x : Replayer) (n : Need) : Type 0 where
  pub sound : IsSound code
  pub going : IsGoing code x
  pub few : x.steps < 2 ^ 40
  pub need : n ≡ need_of code.program.now code.plan.now x.proc

-- ---- answers

-- the failure is not want of memory
abbrev pub IfFailed : EmulError → Type 0 → Type 0
IfFailed Memory p = ⊤
IfFailed e p = p

-- neither is the answer
abbrev pub IfTold : {A : Type 0} → Result A EmulError → Type 0 → Type 0
IfTold (Ok x) p = p
IfTold (Err e) p = IfFailed e p

-- the replay goes on
abbrev pub IfMore : Result Turned EmulError → Type 0 → Type 0
IfMore (Ok More) p = p
IfMore r p = ⊤

-- what comes of a turn with this answer
abbrev pub turned : Result Turned EmulError → Replayer → Turn
turned (Ok More) x = more (replaying x)
turned (Ok Done) x = done (record { steps = x.steps; answer = Ok (record { items = x.items }) })
turned (Err e) x = done (record { steps = x.steps; answer = Err e })

-- between these states and counts of steps the replay took this turn, of at most one step
pub record IsTurn (code : Code) (old new : Replayer) (before after : ℕ) (r : Result Turned EmulError) (t : Turn)
    : Type 0 where
  pub told : IfTold r (turned r new ≡ t)
  pub going : IfMore r (IsGoing code new)
  pub one : new.steps ≤ old.steps + 1
  pub ticks : after + old.steps ≡ before + new.steps

-- ---- a part of a turn

-- a nested interval whose item stands is gone past
abbrev pub skipped_over : Program → Plan → Need → List ℤ → Replaying → Turn
skipped_over program plan need values r =
    take_unit plan (Some (unit_past plan r.proc.todo need))
    (past_piece (counted (record r { proc = skipped program plan values r.proc })))
