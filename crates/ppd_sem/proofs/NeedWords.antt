-- Words of the proofs for the parts of a need and of a step.
use Rattle.std.specs.Option.{option_map_or}
use Rattle.std.specs.Prelude.{◌-◌, [], ◌∷◌, ◌++◌, ℕ, ℤ, List, Option, None, length, drop, slice_get, replicate, pos}
use Rattle.ppd_sem.specs.Process.{need_of_asked, need_of_head, within_budget, need_of, todos, new_frame, act_by_need}
use Rattle.ppd_ast.specs.declared.program.Body.{Body}
use Rattle.ppd_ast.specs.declared.program.Program.{Program}
use Rattle.ppd_ast.specs.declared.plan.Plan.{Plan}
use Rattle.ppd_ast.specs.declared.status.Status.{Status}
use Rattle.ppd_sem.specs.declared.proc.Need.{Need}
use Rattle.ppd_sem.specs.declared.proc.Need.TheVariants.{Enter, Done, Stopped}
use Rattle.ppd_sem.specs.declared.proc.Answer.{Answer}
use Rattle.ppd_sem.specs.declared.proc.Todo.{Todo}
use Rattle.ppd_sem.specs.declared.proc.Proc.{Proc}
use Rattle.ppd_sem.specs.Asked.{Asked}
use Rattle.ppd_sem.specs.Deed.{Deed}
use Rattle.ppd_sem.specs.Tables.{unit_of}
use Rattle.ppd_ast.specs.declared.plan.Start.TheVariants as start
use Rattle.ppd_ast.specs.Lookups.{body_numbered}

-- a send whose offer was taken is completed, and asks for nothing more
abbrev pub need_by_offer : Plan → ℕ → Option ℕ → Need → Need
need_by_offer plan t o need = option_map_or (λ chan. Done chan (unit_of plan (start.After t))) o need

-- a block that is yet to be entered comes first
abbrev pub need_by_entry : Program → Plan → ℕ → Proc → Option ℕ → Asked Deed → Need
need_by_entry program plan t s o asked =
    option_map_or (λ b. Enter b (unit_of plan (start.Enter t))) o (need_of_asked program plan t s asked)

-- the need of what is to do
abbrev pub need_of_running : Program → Plan → List Todo → Proc → Need
need_of_running program plan todo s =
    option_map_or (λ t. within_budget plan s (need_of_head program plan t s)) (slice_get todo 0) Stopped

-- a process with a status needs nothing any more
abbrev pub need_by_status : Program → Plan → Option Status → Proc → Need
need_by_status program plan status s = option_map_or (λ _. Stopped) status (need_of_running program plan s.todo s)

-- the cells of a frame of a body, the first of which have these values
abbrev pub cells_for : Option Body → List ℤ → List ℤ
cells_for o values = option_map_or (λ (b : Body). values ++ replicate (b.cells - length values) (pos 0)) o values

-- the state after a step of the first of these statements
abbrev pub act_at : Program → Plan → Answer → List Todo → Proc → Proc
act_at program plan a todo s =
    option_map_or (λ t. act_by_need program plan a t (drop 1 todo) (need_of program plan s) s) (slice_get todo 0) s

-- a process of this body before its first step
abbrev pub started_in : Program → ℕ → ℕ → Proc
started_in program body budget = record {
  frames = new_frame program body [] None ∷ [];
  todo = todos (body_numbered program body).top;
  answers = [];
  below = 0;
  budget = budget;
  spent = 0;
  steps = 0;
  prints = [];
  status = None;
}
