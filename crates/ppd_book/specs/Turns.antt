-- Turns of workers, and the turns that are left at the end.
use Rattle.ppd_model.specs.Setting.{Setting}
use Rattle.std.specs.Prelude.{◌≡◌, ◌<◌, ◌≤◌, ◌+◌, ◌-◌, ◌*◌, ℕ, nat_eq, true, List, [], ◌∷◌, ◌++◌, count_by, length, MatchBool, ⊤}
use Rattle.ppd_ast.specs.declared.program.Program.{Program}
use Rattle.ppd_model.specs.Logs.{close}
use Rattle.ppd_model.specs.Schedule.{IsOver, IsWhole}
use Rattle.ppd_world.specs.Running.{Running, IsLowest, can_step, stepped}
use Rattle.ppd_book.specs.declared.turn.Ran.{Ran}
use Rattle.ppd_book.specs.declared.turn.Turn.{Turn}
use Rattle.ppd_book.specs.declared.turn.Turn.TheVariants.{Stepped, Over}
use Rattle.ppd_book.specs.Held.{Held}

-- ---- one turn

-- the worker's own process where it can take a step, else the lowest that can
abbrev pub IsPicked : Running → ℕ → ℕ → Type 0
IsPicked r worker p = MatchBool (can_step r worker) (p ≡ worker) (IsLowest r p)

-- the process that was picked took its step, and the schedule grew by it; or nobody can take a step, and nothing
-- changed
abbrev pub IsTurn : Held → Held → ℕ → Turn → Type 0
IsTurn old new worker (Stepped p) =
    IsPicked old.world worker p × (new.world ≡ stepped old.world p) × (new.schedule ≡ old.schedule ++ p ∷ [])
IsTurn old new worker Over = IsOver old.world.setting.program old.world.setting.plan old.world.world × (new ≡ old)

-- some process can take a step
abbrev pub CanGoOn : Running → Type 0
CanGoOn r = (p : ℕ) × (can_step r p ≡ true)

-- who was stepped is a process of the program
abbrev pub IsOfProcess : Program → Turn → Type 0
IsOfProcess program (Stepped p) = p < length program.bodies - program.functions
IsOfProcess program Over = ⊤

-- ---- the turns that are left

-- from the first to the last, each step is that of the lowest process that can take one
abbrev pub GoesLowest : Running → List ℕ → Running → Type 0
GoesLowest r [] last = r ≡ last
GoesLowest r (p ∷ h) last = IsLowest r p × GoesLowest (stepped r p) h last

-- a whole schedule of the program with its closed state
pub record RanToEnd (setting : Setting) (ran : Ran) : Type 0 where
  pub whole : IsWhole setting ran.schedule
  pub closed : ran.closed ≡ close setting ran.schedule

-- the schedule so far went on with the turns that were left, lowest process first, to a whole one
pub record ClosesFrom (setting : Setting) (held : Held) (ran : Ran) : Type 0 where
  pub rest : List ℕ
  pub grew : ran.schedule ≡ held.schedule ++ rest
  pub last : Running
  pub goes : GoesLowest held.world rest last
  pub over : IsOver last.setting.program last.setting.plan last.world
  pub end : RanToEnd setting ran

-- ---- how long a schedule is

-- at most budget + 1 numbers of each process, and of all together at most so many for each
pub record KeepsBudget (program : Program) (budget : ℕ) (schedule : List ℕ) : Type 0 where
  pub each : (p : ℕ) → count_by (nat_eq p) schedule ≤ budget + 1
  pub all : length schedule ≤ (length program.bodies - program.functions) * (budget + 1)
