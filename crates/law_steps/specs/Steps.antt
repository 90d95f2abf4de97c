-- Laws of the course of a process.
use Rattle.std.specs.Prelude.{◌≡◌, ◌≢◌, ◌+◌, ◌<◌, IsTrue, ℕ, length, None, Some, true}
use Rattle.ppd_ast.specs.declared.plan.Plan.{Plan}
use Rattle.ppd_ast.specs.declared.program.Program.{Program}
use Rattle.ppd_ast.specs.Valid.{IsEnding, IsValid}
use Rattle.ppd_ast.specs.Members.{has}
use Rattle.ppd_ast.specs.Lookups.{kind_of, body_numbered}
use Rattle.ppd_sets.specs.Flow.{follow}
use Rattle.ppd_sem.specs.declared.proc.Answer.{Answer}
use Rattle.ppd_sem.specs.declared.proc.Need.TheVariants.{Read, Stopped}
use Rattle.ppd_sem.specs.declared.proc.Proc.{Proc}
use Rattle.ppd_sem.specs.Process.{act, need_of, started, top_frame}
use Rattle.ppd_sem.specs.Passed.{next_stmt_of}
use Rattle.ppd_blocks.specs.Used.{reads_at}
use Rattle.law_steps.specs.Course.{BeginsList, GoesUntilEnd, IsOnCourse, LeadsTo}

-- a process of a valid program begins on course, at the first statement of its body
pub record BeginsOnCourse (program : Program) (plan : Plan) (p budget : ℕ) : Type 0 where
  pub course : IsOnCourse program plan (started program plan p budget)
  pub first : BeginsList (body_numbered program (program.functions + p)).top (started program plan p budget).todo

abbrev pub StartsOnCourse : Type 0
StartsOnCourse =
    (program : Program) (plan : Plan) (p budget : ℕ) → IsValid program → BeginsOnCourse program plan p budget

-- no step leaves the course, whatever answer it gets
abbrev pub StaysOnCourse : Type 0
StaysOnCourse =
    (program : Program) (plan : Plan) (s : Proc) (a : Answer) → IsValid program → IsOnCourse program plan s
    → IsOnCourse program plan (act program plan s a)

-- each step goes along the flow graph, into a function or back behind its call, as its need says
abbrev pub StepsLead : Type 0
StepsLead =
    (program : Program) (plan : Plan) (s : Proc) (a : Answer) (h : ℕ) → IsValid program → IsOnCourse program plan s
    → next_stmt_of s.todo ≡ Some h
    → LeadsTo program plan (need_of program plan s) h (top_frame s.frames).call s (act program plan s a)

-- a shared cell that a step reads is one that its statement may read
abbrev pub ReadsItsCells : Type 0
ReadsItsCells =
    (program : Program) (plan : Plan) (s : Proc) (h c : ℕ) → next_stmt_of s.todo ≡ Some h
    → need_of program plan s ≡ Read c → IsTrue (has (reads_at true program h) c)

-- in a valid program nothing follows a `Return` or an `End`
abbrev pub EndsAreLast : Type 0
EndsAreLast = (program : Program) (s : ℕ) → IsValid program → IsEnding (kind_of program s) → follow program s ≡ None

-- a process of a valid program never runs out of statements: until it stops there is its `End` to come
pub record NeverRunsOut : Type 0 where
  pub starts : (program : Program) (plan : Plan) (p budget : ℕ) → IsValid program
      → program.functions + p < length program.bodies → GoesUntilEnd program (started program plan p budget)
  pub stays : (program : Program) (plan : Plan) (s : Proc) (a : Answer) → GoesUntilEnd program s
      → GoesUntilEnd program (act program plan s a)
  -- so until it stops it needs something
  pub needs : (program : Program) (plan : Plan) (s : Proc) → GoesUntilEnd program s → s.status ≡ None
      → need_of program plan s ≢ Stopped
