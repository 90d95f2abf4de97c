-- A process state of the program: its head statement runs over its top frame.
use Rattle.std.proofs.Common.{◌≡◌, ◌<◌, ◌^◌, List, [], ◌∷◌, length, Some, subst, sym, arith}
use Rattle.std.specs.Prelude.{slice_get}
use Rattle.std.specs.List.{All}
use Rattle.ppd_ast.specs.declared.program.Program.{Program}
use Rattle.ppd_sem.specs.declared.proc.Frame.{Frame}
use Rattle.ppd_sem.specs.declared.proc.Proc.{Proc}
use Rattle.ppd_sem.specs.declared.proc.Todo.{Todo}
use Rattle.ppd_sem.specs.Runs.{AreOver, IsHead, RunsOver, IsRunnable, IsRunning, sizes}
use Rattle.ppd_sem.specs.Process.{top_frame}

over_at : (program : Program) (frames : List Frame) (todo : List Todo) (t : Todo) → AreOver program (sizes frames) todo → slice_get todo 0 ≡ Some t → RunsOver program (length (top_frame frames).cells) t.stmt
over_at program frames [] t h e = absurd cc
over_at program [] (x ∷ xs) t h e = absurd h
over_at program (f ∷ fs) (x ∷ xs) t h e =
    let is : x ≡ t = cc in
    subst (λ (y : Todo). RunsOver program (length f.cells) y.stmt) is h.0

cells_at : (frames : List Frame) → All (λ n. n < 2 ^ 16) (sizes frames) → length (top_frame frames).cells < 2 ^ 16
cells_at [] h = omega arith
cells_at (f ∷ fs) h = h 0 0 (omega arith)

pub head_over : (program : Program) (s : Proc) (t : Todo) → IsRunning program s → slice_get s.todo 0 ≡ Some t → RunsOver program (length (top_frame s.frames).cells) t.stmt
head_over program s t h e = over_at program s.frames s.todo t h.todo e

-- the head statement of a process that runs
pub head_is : (program : Program) (s : Proc) (t : Todo) → IsRunnable program → IsRunning program s
    → slice_get s.todo 0 ≡ Some t → IsHead program s t
head_is program s t runnable h first = record {
  runnable = runnable;
  first = first;
  cells = cells_at s.frames h.frames;
  over = head_over program s t h first;
}

-- the same, as it is found
pub head_found : (program : Program) (s : Proc) (t : Todo) → IsRunnable program → IsRunning program s
    → Some t ≡ slice_get s.todo 0 → IsHead program s t
head_found program s t runnable h found = head_is program s t runnable h (sym found)
