-- A law of the blocks that are open.
use Rattle.std.specs.Prelude.{◌≡◌, List, ◌∷◌, None}
use Rattle.ppd_ast.specs.declared.plan.Plan.{Plan}
use Rattle.ppd_ast.specs.declared.program.Program.{Program}
use Rattle.ppd_sem.specs.declared.proc.Answer.{Answer}
use Rattle.ppd_sem.specs.declared.proc.Proc.{Proc}
use Rattle.ppd_sem.specs.declared.proc.Todo.{Todo}
use Rattle.ppd_sem.specs.Process.{act, need_of}
use Rattle.law_steps.specs.Beside.Opens.{IsCountable, IsCountedStep, IsHome}

-- each step of a process that runs opens and closes as many blocks as its need says, where the
-- blocks of the plan are those of the program, and the head stands in the body of the top frame
abbrev pub StepsCountBlocks : Type 0
StepsCountBlocks =
    (program : Program) (plan : Plan) (s : Proc) (a : Answer) (t : Todo) (ts : List Todo)
    → IsCountable program plan → s.todo ≡ t ∷ ts → IsHome program plan s t → s.status ≡ None
    → IsCountedStep program plan s (need_of program plan s) (act program plan s a)
