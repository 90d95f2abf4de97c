-- The steps of a process in a run: each is what its state needs, and at the end it has stopped or waits.
use Rattle.ppd_model.specs.Setting.{Setting}
use Rattle.std.specs.Prelude.{◌≡◌, ℕ, ◌+◌, ◌<◌, Bool, true, false, List, [], ◌∷◌, length, ℤ, Option, Some, None, is_some, ⊤, get_or}
use Rattle.ppd_ast.specs.Valid.{IsValid}
use Rattle.ppd_ast.specs.declared.plan.Plan.{Plan}
use Rattle.ppd_ast.specs.declared.program.Program.{Program}
use Rattle.ppd_sem.specs.declared.proc.Answer.{Answer}
use Rattle.ppd_sem.specs.declared.proc.Answer.TheVariants.{Value, Go}
use Rattle.ppd_sem.specs.declared.proc.Need.{Need}
use Rattle.ppd_sem.specs.declared.proc.Need.TheVariants.{Read, Recv, Stopped}
use Rattle.ppd_sem.specs.declared.proc.Proc.{Proc}
use Rattle.ppd_sem.specs.Process.{act, need_of, started}
use Rattle.ppd_model.specs.Schedule.{IsWhole}
use Rattle.ppd_model.specs.Story.{Moment, told}
use Rattle.ppd_model.specs.Synchronizations.{kind_of_sync}

-- what a step that was taken is given, besides the value of a read
abbrev pub IsGiven : Need → Answer → Type 0
IsGiven (Read c) a = ⊤
IsGiven Stopped a = ⊥
IsGiven (Recv c u) a = (v : ℤ) × (a ≡ Value v)
IsGiven need a = a ≡ Go

-- a synchronization has a number, and nothing else has
abbrev pub IsNumbered : Bool → Option ℕ → Type 0
IsNumbered true number = (k : ℕ) × (number ≡ Some k)
IsNumbered false number = number ≡ None

-- each moment is the step of the process; at the end it has stopped, or waits at a synchronization
abbrev pub IsRun : Program → Plan → Proc → List Moment → Type 0
IsRun program plan s [] = s.status ≡ None → is_some (kind_of_sync (need_of program plan s)) ≡ true
IsRun program plan s (m ∷ ms) =
    (m.taken.need ≡ need_of program plan s) × IsGiven m.taken.need m.taken.answer
    × IsNumbered (is_some (kind_of_sync m.taken.need)) m.taken.number
    × IsRun program plan (act program plan s m.taken.answer) ms

-- so it is with each process of a whole schedule
abbrev pub SchedulesAreRuns : Type 0
SchedulesAreRuns =
    (setting : Setting) (h : List ℕ) (p : ℕ) → IsValid setting.program → IsWhole setting h
    → setting.program.functions + p < length setting.program.bodies
    → IsRun setting.program setting.plan (started setting.program setting.plan p setting.budget)
    (get_or (told setting h).moments p [])
