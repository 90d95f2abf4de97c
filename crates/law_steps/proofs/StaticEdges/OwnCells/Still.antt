-- A step that is no event leaves the process at its statement, in its frames.
use Rattle.std.proofs.Common.{◌≡◌, ℕ, false, List, [], ◌∷◌, Option, Some, None, Ok, Err, refl, ap}
use Rattle.ppd_ast.specs.declared.plan.Plan.{Plan}
use Rattle.ppd_ast.specs.declared.program.Program.{Program}
use Rattle.ppd_ast.specs.declared.status.Status.{Status}
use Rattle.law_steps.specs.Course.{calls_of}
use Rattle.ppd_model.proofs.LocalSteps.{Fits}
use Rattle.ppd_sem.specs.declared.asking.Pause.TheVariants.{Wants, Traps}
use Rattle.ppd_sem.specs.declared.proc.Answer.{Answer}
use Rattle.ppd_sem.specs.declared.proc.Need.{Need}
use Rattle.ppd_sem.specs.declared.proc.Need.TheVariants.{Read, Enter, Budget, Stopped}
use Rattle.ppd_sem.specs.declared.proc.Proc.{Proc}
use Rattle.ppd_sem.specs.declared.proc.Todo.{Todo}
use Rattle.ppd_sem.specs.Asked.{Asked}
use Rattle.ppd_sem.specs.Deed.{Deed}
use Rattle.ppd_sem.specs.Process.{act_by_asked, act_by_need, head_deed}
use Rattle.ppd_sem.proofs.NeedWords.{need_by_status, need_of_running}
use Rattle.ppd_sem.specs.Described.{is_event}
use Rattle.ppd_sem.specs.Passed.{next_stmt_of}

-- the process is at the same statement, in the same frames
pub record IsStill (s after : Proc) (t : Todo) : Type 0 where
  pub head : next_stmt_of after.todo ≡ Some t.stmt
  pub calls : calls_of after.frames ≡ calls_of s.frames

still_asked : (program : Program) (a : Answer) (t : Todo) (ts : List Todo) (s : Proc) (c : ℕ) (asked : Asked Deed) → s.todo ≡ t ∷ ts → Fits (Read c) asked → IsStill s (act_by_asked program a t ts asked s) t
still_asked program a t ts s c (Ok q) is h = absurd h
still_asked program a t ts s c (Err (Wants x)) is h = record { head = ap next_stmt_of is; calls = refl }
still_asked program a t ts s c (Err (Traps x)) is h = record { head = ap next_stmt_of is; calls = refl }

pub still_need : (program : Program) (plan : Plan) (a : Answer) (t : Todo) (ts : List Todo) (s : Proc) (n : Need) → s.todo ≡ t ∷ ts → is_event n ≡ false → Fits n (head_deed program t s) → IsStill s (act_by_need program plan a t ts n s) t
still_need program plan a t ts s (Read c) is e f = let i = still_asked program a t ts s c (head_deed program t s) is f in record { head = i.head; calls = i.calls }
still_need program plan a t ts s (Enter b u) is e f = record { head = refl; calls = refl }
still_need program plan a t ts s Budget is e f = record { head = ap next_stmt_of is; calls = refl }
still_need program plan a t ts s Stopped is e f = record { head = ap next_stmt_of is; calls = refl }
still_need program plan a t ts s n is e f = absurd (cc)

-- with nothing to do there is no event
pub none_to_do : (program : Program) (plan : Plan) (s : Proc) (o : Option Status) → s.todo ≡ [] → is_event (need_by_status program plan o s) ≡ false
none_to_do program plan s (Some x) is = refl
none_to_do program plan s None is = ap (λ todo. is_event (need_of_running program plan todo s)) is
