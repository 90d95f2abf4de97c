-- Worked rows: the static edges of small programs, by computing.
use Rattle.std.proofs.Common.{◌≡◌, ℕ, refl}
use Rattle.std.specs.Prelude.{pos, Bool, true, false, List, [], ◌∷◌, map, Option, Some, None}
use Rattle.ppd_ast.specs.Term.{terms}
use Rattle.ppd_ast.specs.declared.program.Body.{Body}
use Rattle.ppd_ast.specs.declared.program.Expr.{Expr}
use Rattle.ppd_ast.specs.declared.program.Expr.TheVariants as expr
use Rattle.ppd_ast.specs.declared.program.Kind.{Kind}
use Rattle.ppd_ast.specs.declared.program.Kind.TheVariants as kind
use Rattle.ppd_ast.specs.declared.program.Op.TheVariants as op
use Rattle.ppd_ast.specs.declared.program.Program.{Program}
use Rattle.ppd_ast.specs.declared.program.Stmt.{Stmt}
use Rattle.ppd_ast.specs.declared.program.Target.TheVariants as target
use Rattle.ppd_ast.specs.declared.program.Var.{Var}
use Rattle.ppd_sets.specs.Flow.{follow_at}
use Rattle.ppd_deps.specs.declared.edges.StaticEdge.TheVariants.{Data, ControlEntry, Control}
use Rattle.ppd_deps.specs.Edges.{edges_of}

abbrev scalar : ℕ → Var
scalar c = record { name = []; base = c; len = None }

abbrev at : ℕ → Option ℕ → Kind → Stmt
at b parent k = record { place = record { line = 1; column = 1 }; body = b; parent = parent; kind = k }

abbrev function : (params : ℕ) → Bool → List Var → (cells : ℕ) → List ℕ → (first end : ℕ) → Body
function params value locals cells top first end =
    record { name = []; process = false; params = params; value = value; cells = cells; locals = locals; top = top; first = first; end = end }

abbrev process : List Var → (cells : ℕ) → List ℕ → (first end : ℕ) → Body
process locals cells top first end =
    record { name = []; process = true; params = 0; value = false; cells = cells; locals = locals; top = top; first = first; end = end }

abbrev program : List Expr → List Stmt → List Body → (functions : ℕ) → List Var → Program
program exprs stmts bodies functions shared =
    record { exprs = exprs; stmts = stmts; bodies = bodies; functions = functions; shared = shared; starts = map (λ _. pos 0) shared; sems = []; chans = [] }

-- int f(int n) { int r; if (n > 0) { r = f(n - 1); } return r + 1; } process a { int v = f(2); print(v); }
abbrev recursion : Program
recursion =
    program
    (expr.Const (pos 0) ∷ expr.Local 0 ∷ expr.Const (pos 0) ∷ expr.Two op.Gt 1 2 ∷ expr.Local 0 ∷ expr.Const (pos 1) ∷ expr.Two op.Sub 4 5
    ∷ expr.Local 1 ∷ expr.Const (pos 1) ∷ expr.Two op.Add 7 8 ∷ expr.Const (pos 2) ∷ expr.Local 0 ∷ [])
    (at 0 None (kind.Set (target.Local 1) 0) ∷ at 0 None (kind.If 3 (2 ∷ []) []) ∷ at 0 (Some 1) (kind.Call 0 (6 ∷ []) (Some 1))
    ∷ at 0 None (kind.Return (Some 9)) ∷ at 1 None (kind.Call 0 (10 ∷ []) (Some 0)) ∷ at 1 None (kind.Print 11) ∷ at 1 None kind.End ∷ [])
    (function 1 true (scalar 0 ∷ scalar 1 ∷ []) 2 (0 ∷ 1 ∷ 3 ∷ []) 0 4 ∷ process (scalar 0 ∷ []) 1 (4 ∷ 5 ∷ 6 ∷ []) 4 7 ∷ [])
    1 []

-- the value that a call receives is from the `return`
pub recursion_three : edges_of recursion 3 ≡ Data 0 false 1 ∷ Data 3 false 1 ∷ ControlEntry ∷ []
unfolding terms follow_at
recursion_three = refl

-- a parameter is from each call
pub recursion_two : edges_of recursion 2 ≡ Data 2 false 0 ∷ Data 4 false 0 ∷ Control 1 ∷ []
unfolding terms follow_at
recursion_two = refl

pub recursion_five : edges_of recursion 5 ≡ Data 3 false 0 ∷ ControlEntry ∷ []
unfolding terms follow_at
recursion_five = refl

-- shared int x; void f() { x = 4; } process a { x = 1; f(); print(x); }
abbrev callee_write : Program
callee_write =
    program (expr.Const (pos 4) ∷ expr.Const (pos 1) ∷ expr.Shared 0 ∷ [])
    (at 0 None (kind.Set (target.Shared 0) 0) ∷ at 0 None (kind.Return None) ∷ at 1 None (kind.Set (target.Shared 0) 1)
    ∷ at 1 None (kind.Call 0 [] None) ∷ at 1 None (kind.Print 2) ∷ at 1 None kind.End ∷ [])
    (function 0 false [] 0 (0 ∷ 1 ∷ []) 0 2 ∷ process [] 0 (2 ∷ 3 ∷ 4 ∷ 5 ∷ []) 2 6 ∷ [])
    1 (scalar 0 ∷ [])

pub callee_write_four : edges_of callee_write 4 ≡ Data 0 true 0 ∷ Data 2 true 0 ∷ ControlEntry ∷ []
unfolding terms follow_at
callee_write_four = refl

-- process a { int i = 3; while (i < 3) { i = i + 1; } print(i); }
abbrev loop_never_entered : Program
loop_never_entered =
    program
    (expr.Const (pos 3) ∷ expr.Local 0 ∷ expr.Const (pos 3) ∷ expr.Two op.Lt 1 2 ∷ expr.Local 0 ∷ expr.Const (pos 1) ∷ expr.Two op.Add 4 5 ∷ expr.Local 0 ∷ [])
    (at 0 None (kind.Set (target.Local 0) 0) ∷ at 0 None (kind.While 3 (2 ∷ [])) ∷ at 0 (Some 1) (kind.Set (target.Local 0) 6)
    ∷ at 0 None (kind.Print 7) ∷ at 0 None kind.End ∷ [])
    (process (scalar 0 ∷ []) 1 (0 ∷ 1 ∷ 3 ∷ 4 ∷ []) 0 5 ∷ [])
    0 []

pub loop_never_entered_one : edges_of loop_never_entered 1 ≡ Data 0 false 0 ∷ Data 2 false 0 ∷ ControlEntry ∷ Control 1 ∷ []
unfolding terms follow_at
loop_never_entered_one = refl

pub loop_never_entered_two : edges_of loop_never_entered 2 ≡ Data 0 false 0 ∷ Data 2 false 0 ∷ Control 1 ∷ []
unfolding terms follow_at
loop_never_entered_two = refl

-- process a { int b[2]; int s; b[0] = 1; b[1] = 2; s = b[0]; s = 3; print(s); }
abbrev elements : Program
elements =
    program
    (expr.Const (pos 0) ∷ expr.Const (pos 0) ∷ expr.Const (pos 1) ∷ expr.Const (pos 1) ∷ expr.Const (pos 2) ∷ expr.Const (pos 0) ∷ expr.LocalAt 0 2 5
    ∷ expr.Const (pos 3) ∷ expr.Local 2 ∷ [])
    (at 0 None (kind.Zero 0 2) ∷ at 0 None (kind.Set (target.Local 2) 0) ∷ at 0 None (kind.Set (target.LocalAt 0 2 1) 2)
    ∷ at 0 None (kind.Set (target.LocalAt 0 2 3) 4) ∷ at 0 None (kind.Set (target.Local 2) 6) ∷ at 0 None (kind.Set (target.Local 2) 7)
    ∷ at 0 None (kind.Print 8) ∷ at 0 None kind.End ∷ [])
    (process (record { name = []; base = 0; len = Some 2 } ∷ scalar 2 ∷ []) 3 (0 ∷ 1 ∷ 2 ∷ 3 ∷ 4 ∷ 5 ∷ 6 ∷ 7 ∷ []) 0 8 ∷ [])
    0 []

-- the write of an element ends no path, that of a scalar does
pub elements_four : edges_of elements 4 ≡ Data 0 false 0 ∷ Data 2 false 0 ∷ Data 3 false 0 ∷ ControlEntry ∷ []
unfolding terms follow_at
elements_four = refl

pub elements_six : edges_of elements 6 ≡ Data 5 false 1 ∷ ControlEntry ∷ []
unfolding terms follow_at
elements_six = refl
