-- Worked runs: from which statements what each event reads, and its control, came.
use Rattle.ppd_model.specs.Setting.{setting_of}
use Rattle.std.proofs.Common.{◌≡◌, ℕ, List, [], ◌∷◌, Bool, true, false, map, Option, Some, None, refl}
use Rattle.ppd_model.specs.Story.{story}
use Rattle.std.specs.Prelude.{get_or, option_map, pos, replicate}
use Rattle.ppd_ast.specs.Term.{terms}
use Rattle.ppd_ast.specs.declared.plan.Plan.{Plan}
use Rattle.ppd_ast.specs.declared.program.Body.{Body}
use Rattle.ppd_ast.specs.declared.program.Expr.{Expr}
use Rattle.ppd_ast.specs.declared.program.Expr.TheVariants as expr
use Rattle.ppd_ast.specs.declared.program.Kind.{Kind}
use Rattle.ppd_ast.specs.declared.program.Kind.TheVariants as kind
use Rattle.ppd_ast.specs.declared.program.Op.TheVariants as op
use Rattle.ppd_ast.specs.declared.program.Program.{Program}
use Rattle.ppd_ast.specs.declared.program.Stmt.{Stmt}
use Rattle.ppd_ast.specs.declared.program.Target.TheVariants as target
use Rattle.ppd_ast.specs.declared.program.Var.{Var}
use Rattle.ppd_model.specs.declared.trace.EventId.{EventId}
use Rattle.ppd_model.specs.declared.trace.Trace.{Trace}
use Rattle.ppd_model.specs.FullTrace.{full_trace}
use Rattle.law_steps.specs.Sound.{event_at}

-- ---- programs

abbrev scalar : ℕ → Var
scalar c = record { name = []; base = c; len = None }

abbrev at : ℕ → Option ℕ → Kind → Stmt
at b parent k = record { place = record { line = 1; column = 1 }; body = b; parent = parent; kind = k }

abbrev body : (process : Bool) (params : ℕ) → Bool → List Var → (cells : ℕ) → List ℕ → (first end : ℕ) → Body
body process params value locals cells top first end =
    record { name = []; process = process; params = params; value = value; cells = cells; locals = locals; top = top; first = first; end = end }

abbrev program : List Expr → List Stmt → List Body → (functions : ℕ) → List Var → Program
program exprs stmts bodies functions shared =
    record { exprs = exprs; stmts = stmts; bodies = bodies; functions = functions; shared = shared; starts = map (λ _. pos 0) shared; sems = []; chans = [] }

-- no blocks and no units: they change nothing of what is read
abbrev plan : Plan
plan = record { policy = record { leaf = 0; loops = 0 }; blocks = []; units = [] }

-- int f(int n) { int r; if (n > 0) { r = f(n - 1); } return r + 1; } process a { int v = f(2); print(v); }
abbrev recursion : Program
recursion =
    program
    (expr.Const (pos 0) ∷ expr.Local 0 ∷ expr.Const (pos 0) ∷ expr.Two op.Gt 1 2 ∷ expr.Local 0 ∷ expr.Const (pos 1) ∷ expr.Two op.Sub 4 5
    ∷ expr.Local 1 ∷ expr.Const (pos 1) ∷ expr.Two op.Add 7 8 ∷ expr.Const (pos 2) ∷ expr.Local 0 ∷ [])
    (at 0 None (kind.Set (target.Local 1) 0) ∷ at 0 None (kind.If 3 (2 ∷ []) []) ∷ at 0 (Some 1) (kind.Call 0 (6 ∷ []) (Some 1))
    ∷ at 0 None (kind.Return (Some 9)) ∷ at 1 None (kind.Call 0 (10 ∷ []) (Some 0)) ∷ at 1 None (kind.Print 11) ∷ at 1 None kind.End ∷ [])
    (body false 1 true (scalar 0 ∷ scalar 1 ∷ []) 2 (0 ∷ 1 ∷ 3 ∷ []) 0 4 ∷ body true 0 false (scalar 0 ∷ []) 1 (4 ∷ 5 ∷ 6 ∷ []) 4 7 ∷ [])
    1 []

-- shared int x; void f() { x = 4; } process a { x = 1; f(); print(x); }
abbrev callee_write : Program
callee_write =
    program (expr.Const (pos 4) ∷ expr.Const (pos 1) ∷ expr.Shared 0 ∷ [])
    (at 0 None (kind.Set (target.Shared 0) 0) ∷ at 0 None (kind.Return None) ∷ at 1 None (kind.Set (target.Shared 0) 1)
    ∷ at 1 None (kind.Call 0 [] None) ∷ at 1 None (kind.Print 2) ∷ at 1 None kind.End ∷ [])
    (body false 0 false [] 0 (0 ∷ 1 ∷ []) 0 2 ∷ body true 0 false [] 0 (2 ∷ 3 ∷ 4 ∷ 5 ∷ []) 2 6 ∷ [])
    1 (scalar 0 ∷ [])

-- ---- where values and control came from

-- the statement of an event, if there is one
abbrev source : Trace → Option EventId → Option ℕ
source trace None = None
source trace (Some id) = option_map (λ e. e.event.stmt) (event_at trace id.process id.number)

-- of each event of a process its statement, those that wrote what it reads, and that of its control parent
abbrev came : Trace → ℕ → List (ℕ × List (Option ℕ) × Option ℕ)
came trace p = map (λ e. (e.event.stmt, map (source trace) e.writers, source trace e.parent)) (get_or trace.events p [])

-- so each of the edges Data 0 and Data 3 into the `return` 3, Data 2, Data 4 and Control 1 into the call 2 and Data 3
-- into the print 5 is of some event
pub recursion_came : came (full_trace (setting_of recursion plan 100000) (story (setting_of recursion plan 100000) (replicate 14 0))) 0
    ≡ (4, [], None) ∷ (0, [], Some 4) ∷ (1, Some 4 ∷ [], Some 4) ∷ (2, Some 4 ∷ [], Some 1)
    ∷ (0, [], Some 2) ∷ (1, Some 2 ∷ [], Some 2) ∷ (2, Some 2 ∷ [], Some 1)
    ∷ (0, [], Some 2) ∷ (1, Some 2 ∷ [], Some 2) ∷ (3, Some 0 ∷ [], Some 2)
    ∷ (3, Some 3 ∷ [], Some 2) ∷ (3, Some 3 ∷ [], Some 4) ∷ (5, Some 3 ∷ [], None) ∷ (6, [], None) ∷ []
unfolding terms
recursion_came = refl

-- the print reads what the callee wrote
pub callee_came : came (full_trace (setting_of callee_write plan 100000) (story (setting_of callee_write plan 100000) (replicate 7 0))) 0
    ≡ (2, [], None) ∷ (3, [], None) ∷ (0, [], Some 3) ∷ (1, [], Some 3) ∷ (4, Some 0 ∷ [], None) ∷ (5, [], None) ∷ []
unfolding terms
callee_came = refl
