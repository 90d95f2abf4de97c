-- How many intervals of a process run at each of its steps: the last to be left is its own, and nothing follows a stop.
use Rattle.std.specs.Prelude.{◌≡◌, ℕ, zero, suc, true, false, List, [], ◌∷◌, Option, Some, None, is_none}
use Rattle.ppd_ast.specs.declared.plan.Plan.{Plan}
use Rattle.ppd_ast.specs.declared.program.Program.{Program}
use Rattle.ppd_ast.specs.declared.status.Status.{Status}
use Rattle.ppd_sem.specs.declared.proc.Proc.{Proc}
use Rattle.ppd_sem.specs.Process.{act}
use Rattle.ppd_model.specs.Logs.{status_of}
use Rattle.ppd_model.specs.Marks.{Mark, opened, closed}
use Rattle.ppd_model.specs.Story.{Moment}

-- n intervals run before a step that opens, closes and stops so; what is then to hold of their number after
-- it, or of the stop
abbrev pub Goes : ℕ → (opens closes : Option Mark) → Option Status → (ℕ → Type 0) → Type 0 → Type 0
Goes n (Some a) c s after over = after (suc n)
Goes n None (Some a) (Some s) after over = (n ≡ 1) × over
Goes zero None (Some a) None after over = ⊥
Goes (suc n) None (Some a) None after over = after n
Goes n None None (Some s) after over = over
Goes n None None None after over = after n

-- the process has stopped, and no step follows
abbrev pub HasStopped : Proc → List Moment → Type 0
HasStopped s [] = is_none s.status ≡ false
HasStopped s (m ∷ ms) = ⊥

-- n intervals run, and the steps to come open and close them in this way
abbrev pub IsNested : Program → Plan → Proc → List Moment → ℕ → Type 0
IsNested program plan s [] n = is_none s.status ≡ true
IsNested program plan s (m ∷ ms) n =
    Goes n (opened program plan s m.taken.need) (closed program plan s m.taken.need) (status_of m.taken.need)
    (IsNested program plan (act program plan s m.taken.answer) ms) (HasStopped (act program plan s m.taken.answer) ms)
