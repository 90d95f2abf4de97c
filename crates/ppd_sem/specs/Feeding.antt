-- The parts of a step.
use Rattle.std.specs.Prelude.{ℕ, ℤ, List, [], ◌∷◌, ◌++◌, drop, Some}
use Rattle.ppd_ast.specs.declared.program.Program.{Program}
use Rattle.ppd_ast.specs.declared.status.Status.TheVariants as status
use Rattle.ppd_sem.specs.declared.asking.Pause.{Pause}
use Rattle.ppd_sem.specs.declared.asking.Pause.TheVariants.{Wants, Traps}
use Rattle.ppd_sem.specs.declared.proc.Answer.{Answer}
use Rattle.ppd_sem.specs.declared.proc.Proc.{Proc}
use Rattle.ppd_sem.specs.declared.proc.Todo.{Todo}
use Rattle.ppd_sem.specs.Process.{new_frame, todos, value_of}
use Rattle.ppd_ast.specs.Lookups.{body_numbered}

-- after the head statement, without its answers
abbrev pub finished : Proc → Proc
finished s = record s { todo = drop 1 s.todo; answers = [] }

-- a statement that lacks a value, or traps
abbrev pub hold_at : Proc → Pause → Answer → Proc
hold_at s (Wants c) a = record s { answers = s.answers ++ value_of a ∷ [] }
hold_at s (Traps t) a = record s { status = Some (status.Trap t) }

-- a function that begins
abbrev pub invoked : Program → Todo → ℕ → List ℤ → Proc → Proc
invoked program t f values s = record s {
  todo = todos (body_numbered program f).top ++ drop 1 s.todo;
  frames = new_frame program f values (Some t.stmt) ∷ s.frames;
  answers = [];
}
