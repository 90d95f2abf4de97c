-- A process before its first step is one of the program.
use Rattle.std.proofs.Common.{◌≡◌, ℕ, zero, suc, ◌<◌, ◌≤◌, ◌^◌, ℤ, List, [], ◌∷◌, ◌++◌, length, Option, None, sym, subst, arith}
use Rattle.std.specs.Prelude.{slice_get, unwrap_or}
use Rattle.std.specs.List.{All}
use Rattle.std.proofs.lemmas.List.{append-nil}
use Rattle.ppd_ast.specs.declared.program.Body.{Body}
use Rattle.ppd_ast.specs.declared.program.Program.{Program}
use Rattle.ppd_sem.specs.declared.proc.Frame.{Frame}
use Rattle.ppd_sem.specs.declared.proc.Todo.{Todo}
use Rattle.ppd_sem.specs.Process.{new_frame, todos}
use Rattle.ppd_sem.proofs.NeedWords.{cells_for, started_in}
use Rattle.ppd_sem.specs.Runs.{AreOver, IsInner, IsRunnable, IsRunnableBody, IsRunning, size_of, sizes}
use Rattle.ppd_sem.proofs.Kept.{There, there_at, inner_over, cells_count, size_small}
use Rattle.ppd_ast.specs.Lookups.{body_numbered, no_body}

pub started_over : (p : Program) (f : ℕ) → IsRunnable p → p.functions ≤ f → f < length p.bodies → AreOver p (size_of p f ∷ []) (todos (body_numbered p f).top)
started_over p f h from lt =
    let found : There (λ i b. IsRunnableBody p i b) p.bodies f = there_at (λ i b. IsRunnableBody p i b) p.bodies f h.bodies lt in
    let inner : All (IsInner p found.0.cells) found.0.top = found.2.top from in
    let plain : AreOver p (found.0.cells ∷ []) (todos found.0.top ++ []) = inner_over p found.0.cells [] found.0.top [] inner tt in
    let over : AreOver p (found.0.cells ∷ []) (todos found.0.top) = subst (λ (l : List Todo). AreOver p (found.0.cells ∷ []) l) (append-nil (todos found.0.top)) plain in
    subst (λ (o : Option Body). AreOver p ((unwrap_or o no_body).cells ∷ []) (todos (unwrap_or o no_body).top)) (sym found.1) over

pub started_runs : (program : Program) (body budget : ℕ) → IsRunnable program → program.functions ≤ body → body < length program.bodies → IsRunning program (started_in program body budget)
started_runs p f budget h from lt =
    let few : 0 ≤ (body_numbered p f).cells = omega arith in
    let count : length (cells_for (slice_get p.bodies f) []) ≡ size_of p f = cells_count (slice_get p.bodies f) [] few in
    let small : size_of p f < 2 ^ 16 = size_small p f h in
    record {
      todo = subst (λ (n : ℕ). AreOver p (n ∷ []) (todos (body_numbered p f).top)) (sym count) (started_over p f h from lt);
      frames = one (length (cells_for (slice_get p.bodies f) [])) (omega arith);
      below = omega arith;
      steps = omega arith;
      spent = omega arith;
    }
  where
    one : (n : ℕ) → n < 2 ^ 16 → All (λ m. m < 2 ^ 16) (n ∷ [])
    one n small zero d b = small
    one n small (suc k) d b = absurd (omega arith)

-- the same, with its parts named
pub started_like : (program : Program) (body budget : ℕ) (frames : List Frame) (todo : List Todo) (answers prints : List ℤ) → IsRunnable program → program.functions ≤ body → body < length program.bodies → frames ≡ new_frame program body [] None ∷ [] → todo ≡ todos (body_numbered program body).top
    → IsRunning program record { frames = frames; todo = todo; answers = answers; below = 0; budget = budget; spent = 0; steps = 0; prints = prints; status = None }
started_like p f budget frames todo answers prints h from lt fs ts =
    let run : IsRunning p (started_in p f budget) = started_runs p f budget h from lt in
    let over : AreOver p (sizes frames) todo = subst (λ (l : List Todo). AreOver p (sizes frames) l) (sym ts) (subst (λ (l : List Frame). AreOver p (sizes l) (todos (body_numbered p f).top)) (sym fs) run.todo) in
    record {
      todo = over;
      frames = subst (λ (l : List Frame). All (λ n. n < 2 ^ 16) (sizes l)) (sym fs) run.frames;
      below = omega arith;
      steps = omega arith;
      spent = omega arith;
    }
