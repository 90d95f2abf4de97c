-- The statement of a write: it writes the cell, its body runs, and its event has the number of the events before it.
use Rattle.std.proofs.Common.{◌≡◌, ℕ, ◌+◌, ◌<◌, ℤ, true, List, [], ◌∷◌, ◌++◌, length, refl, sym, subst, arith}
use Rattle.ppd_model.specs.declared.tracing.Story.{Story}
use Rattle.ppd_model.specs.declared.tracing.Taken.{Taken}
use Rattle.ppd_model.specs.declared.tracing.Tracing.{Tracing}
use Rattle.std.specs.Prelude.{IsTrue, fold}
use Rattle.std.specs.List.{range_with_len}
use Rattle.ppd_ast.specs.declared.plan.Plan.{Plan}
use Rattle.ppd_ast.specs.declared.program.Program.{Program}
use Rattle.ppd_ast.specs.Members.{has}
use Rattle.ppd_ast.specs.Lookups.{kind_of, body_of}
use Rattle.ppd_ast.proofs.Members.{filter_has, from_zero}
use Rattle.ppd_ast.specs.Counting.{one_if}
use Rattle.ppd_sets.specs.Reach.{closure, leads}
use Rattle.ppd_sets.proofs.Leading.{leads-tests}
use Rattle.ppd_deps.specs.Named.{running}
use Rattle.ppd_deps.proofs.Vocabulary.{processes}
use Rattle.ppd_model.specs.FullTrace.{trace_by, trace_step}
use Rattle.ppd_model.proofs.Homes.{AreHome}
use Rattle.ppd_sem.specs.declared.proc.Frame.{Frame}
use Rattle.ppd_sem.specs.declared.proc.Need.{Need}
use Rattle.ppd_sem.specs.declared.proc.Need.TheVariants.{Read, Write, Enter, Budget, Stopped}
use Rattle.ppd_sem.specs.declared.proc.Proc.{Proc}
use Rattle.ppd_sem.specs.declared.proc.Todo.{Todo}
use Rattle.ppd_sem.specs.Asked.{Asked}
use Rattle.ppd_sem.specs.Deed.{Deed}
use Rattle.ppd_sem.specs.Process.{head_deed, need_of, top_frame}
use Rattle.ppd_sem.specs.Described.{is_event}
use Rattle.ppd_sem.specs.Runs.{bodies_in}
use Rattle.ppd_sets.specs.Used.{call_rows, writes_at}
use Rattle.law_steps.proofs.StaticEdges.SharedCells.Asking.{Tells, need_tells}
use Rattle.law_steps.proofs.StaticEdges.OwnCells.Does.{AskedDoes, deed_does}
use Rattle.law_steps.proofs.StaticEdges.Frames.{AllRun, Runs, links}
use Rattle.law_steps.proofs.StaticEdges.SharedCells.Writers.{events_in}

-- ---- a statement that writes

-- the cell of a write is one that its statement writes
pub written : (program : Program) (plan : Plan) (s : Proc) (t : Todo) (ts : List Todo) (c : ℕ) (v : ℤ) → s.todo ≡ t ∷ ts → need_of program plan s ≡ Write c v → IsTrue (has (writes_at true program t.stmt) c)
written program plan s t ts c v is need =
    let tells : Tells (Write c v) (head_deed program t s) = subst (λ n. Tells n (head_deed program t s)) need (need_tells program plan s t ts is) in
    let does : AskedDoes (kind_of program t.stmt) (head_deed program t s) = deed_does program.exprs (kind_of program t.stmt) (top_frame s.frames).cells s.answers in
    let both = subst (λ (asked : Asked Deed). AskedDoes (kind_of program t.stmt) asked) tells.1 does in
    both.1

-- a body that runs is among those that do
pub is_running : (program : Program) (b : ℕ) → b < length program.bodies → Runs program b → IsTrue (has (running program) b)
is_running program b lt run =
    filter_has (leads (closure (call_rows program)) (processes program)) (range_with_len 0 (length program.bodies)) b (from_zero b (length program.bodies) lt) ((leads-tests (call_rows program) (processes program) b).1 (run lt))

-- the head is of a body that runs
pub head_runs : (program : Program) (frames : List Frame) (t : Todo) (ts : List Todo) → AreHome program (bodies_in frames) (t ∷ ts) → AllRun program (links frames) → Runs program (body_of program t.stmt)
head_runs program [] t ts home run = absurd home
head_runs program (f ∷ fs) t ts home run = subst (λ b. Runs program b) (sym home.0) run.0

-- ---- the number of an event

plus_none : (n : ℕ) → n ≡ n + 0
plus_none n = omega arith

length_more : {A : Type 0} (xs : List A) (y : A) → length (xs ++ y ∷ []) ≡ length xs + 1
length_more [] y = refl
length_more (x ∷ xs) y = let e : length (xs ++ y ∷ []) ≡ length xs + 1 = length_more xs y in omega arith

module _ (program : Program) (plan : Plan) (story : Story) (p : ℕ) where
  one_event : (x : Taken) (n : Need) (u : Tracing) → length (trace_by program plan story p x n u).events ≡ length u.events + one_if (is_event n)
  one_event x (Read c) u = plus_none (length u.events)
  one_event x (Enter b w) u = plus_none (length u.events)
  one_event x Budget u = plus_none (length u.events)
  one_event x Stopped u = plus_none (length u.events)
  one_event x n u = length_more u.events _

  pub count_events : (u : Tracing) (xs : List Taken) → length (fold (trace_step program plan story p) u xs).events ≡ length u.events + events_in xs
  count_events u [] = plus_none (length u.events)
  count_events u (x ∷ xs) =
      let rest : length (fold (trace_step program plan story p) (trace_step program plan story p u x) xs).events ≡ length (trace_step program plan story p u x).events + events_in xs = count_events (trace_step program plan story p u x) xs in
      let one : length (trace_step program plan story p u x).events ≡ length u.events + one_if (is_event x.need) = one_event x x.need u in
      omega arith
