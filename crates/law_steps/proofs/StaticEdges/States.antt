-- What holds of the states of a process of a valid program.
use Rattle.std.proofs.Common.{◌≡◌, ℕ, ◌+◌, ◌<◌, ◌^◌, zero, suc, true, List, [], ◌∷◌, Option, Some, None, refl, ap, sym, subst, ◌∙◌, length, arith}
use Rattle.ppd_model.specs.declared.tracing.Story.{Story}
use Rattle.ppd_model.specs.declared.tracing.Taken.{Taken}
use Rattle.ppd_model.specs.declared.tracing.Tracing.{Tracing}
use Rattle.std.specs.Prelude.{fold, slice_get, unwrap_or}
use Rattle.std.specs.List.{All}
use Rattle.std.proofs.lemmas.Option.{slice_get_within}
use Rattle.ppd_ast.specs.declared.plan.Plan.{Plan}
use Rattle.ppd_ast.specs.declared.program.Body.{Body}
use Rattle.ppd_ast.specs.declared.program.Program.{Program}
use Rattle.ppd_ast.specs.declared.status.Status.{Status}
use Rattle.ppd_ast.specs.Valid.{IsValid}
use Rattle.ppd_sem.specs.declared.proc.Answer.{Answer}
use Rattle.ppd_sem.specs.declared.proc.Proc.{Proc}
use Rattle.ppd_sem.specs.declared.proc.Todo.{Todo}
use Rattle.ppd_sem.specs.Process.{act, need_of, started, todos}
use Rattle.ppd_sem.proofs.NeedWords.{cells_for, need_by_status, need_of_running}
use Rattle.ppd_sem.specs.Runs.{AreOver, IsRunning}
use Rattle.ppd_sem.proofs.Kept.{act-runs}
use Rattle.ppd_sem.proofs.Running.{head_over}
use Rattle.ppd_sem.proofs.Starts.{started_runs}
use Rattle.ppd_sem.proofs.Validity.{valid-runnable}
use Rattle.ppd_sem.specs.Described.{is_event}
use Rattle.ppd_model.specs.FullTrace.{begun_tracing, event_of, trace_step}
use Rattle.ppd_ast.specs.Lookups.{no_body}

-- ---- all states

-- what each step keeps holds after all of them
pub holds_all : (program : Program) (plan : Plan) (story : Story) (p : ℕ) (P : Proc → Type 0) → ((s : Proc) (a : Answer) → P s → P (act program plan s a))
    → (t : Tracing) (xs : List Taken) → P t.proc → P (fold (trace_step program plan story p) t xs).proc
holds_all program plan story p P step t [] h = h
holds_all program plan story p P step t (x ∷ xs) h = holds_all program plan story p P step (trace_step program plan story p t x) xs (step t.proc x.answer h)

-- ---- the statements that are to do are there

started_at : (program : Program) (f budget : ℕ) (plan : Plan) (p : ℕ) (o : Option Body) → f ≡ program.functions + p → IsValid program → slice_get program.bodies f ≡ o → IsRunning program (started program plan p budget)
started_at program f budget plan p None f_is v e =
    let at : slice_get program.bodies (program.functions + p) ≡ None = ap (slice_get program.bodies) (sym f_is) ∙ e in
    record {
      todo = subst (λ (o : Option Body). AreOver program (length (cells_for o []) ∷ []) (todos (unwrap_or o no_body).top)) (sym at) tt;
      frames = subst (λ (o : Option Body). All (λ n. n < 2 ^ 16) (length (cells_for o []) ∷ [])) (sym at) small;
      below = omega arith;
      steps = omega arith;
      spent = omega arith;
    }
  where
    small : All (λ n. n < 2 ^ 16) (0 ∷ [])
    small zero d b = omega arith
    small (suc k) d b = absurd (omega arith)
started_at program f budget plan p (Some b) f_is v e =
    let at : slice_get program.bodies (program.functions + p) ≡ Some b = ap (slice_get program.bodies) (sym f_is) ∙ e in
    started_runs program (program.functions + p) budget (valid-runnable program v) (omega arith) (slice_get_within program.bodies (program.functions + p) b at)

pub runs_all : (program : Program) (plan : Plan) (story : Story) (p budget : ℕ) (xs : List Taken) → IsValid program → IsRunning program (fold (trace_step program plan story p) (begun_tracing (started program plan p budget)) xs).proc
runs_all program plan story p budget xs v =
    holds_all program plan story p (IsRunning program) (λ s a h. act-runs program plan s a (valid-runnable program v) h) (begun_tracing (started program plan p budget)) xs
    (started_at program (program.functions + p) budget plan p (slice_get program.bodies (program.functions + p)) refl v refl)

-- ---- an event has a statement

-- the head of what is to do
pub record HasHead (s : Proc) : Type 0 where
  pub head : Todo
  pub rest : List Todo
  pub is : s.todo ≡ head ∷ rest

by_todo : (program : Program) (plan : Plan) (s : Proc) (todo : List Todo) → s.todo ≡ todo → is_event (need_of_running program plan todo s) ≡ true → HasHead s
by_todo program plan s [] is e = absurd (cc)
by_todo program plan s (t ∷ ts) is e = record { head = t; rest = ts; is = is }

by_status : (program : Program) (plan : Plan) (s : Proc) (o : Option Status) → is_event (need_by_status program plan o s) ≡ true → HasHead s
by_status program plan s None e = by_todo program plan s s.todo refl e
by_status program plan s (Some x) e = absurd (cc)

-- a step that is an event has a head
pub event_head : (program : Program) (plan : Plan) (s : Proc) → is_event (need_of program plan s) ≡ true → HasHead s
event_head program plan s e = by_status program plan s s.status e

-- of which it is
pub head_stmt : (program : Program) (plan : Plan) (s : Proc) (x : Taken) (h : HasHead s) → (event_of program plan s x s.todo).stmt ≡ h.head.stmt
head_stmt program plan s x h = ap (λ todo. (event_of program plan s x todo).stmt) h.is

-- and which is a statement of the program
pub head_there : (program : Program) (s : Proc) (h : HasHead s) → IsRunning program s → h.head.stmt < length program.stmts
head_there program s h run = (head_over program s h.head run (ap (λ todo. slice_get todo 0) h.is)).there
