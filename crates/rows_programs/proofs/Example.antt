-- A small program, which examples run.
use Rattle.std.specs.Prelude.{pos, true, false, List, [], ◌∷◌, None}
use Rattle.ppd_ast.specs.declared.program.Expr.{Expr}
use Rattle.ppd_ast.specs.declared.program.Expr.TheVariants as expr
use Rattle.ppd_ast.specs.declared.program.Kind.{Kind}
use Rattle.ppd_ast.specs.declared.program.Kind.TheVariants as kind
use Rattle.ppd_ast.specs.declared.program.Op.TheVariants as op
use Rattle.ppd_ast.specs.declared.program.Program.{Program}
use Rattle.ppd_ast.specs.declared.program.Stmt.{Stmt}
use Rattle.ppd_ast.specs.declared.program.Target.TheVariants as target

abbrev pub stmt : Kind → Stmt
stmt kind = record { place = record { line = 1; column = 1 }; body = 0; parent = None; kind = kind }

-- one process of three statements, over one shared variable
abbrev pub program_of : List Expr → Kind → Kind → Program
program_of exprs first second = record {
  exprs = exprs;
  stmts = stmt first ∷ stmt second ∷ stmt kind.End ∷ [];
  bodies = record {
    name = 97 ∷ [];
    process = true;
    params = 0;
    value = false;
    cells = 0;
    locals = [];
    top = 0 ∷ 1 ∷ 2 ∷ [];
    first = 0;
    end = 3;
  } ∷ [];
  functions = 0;
  shared = record { name = 120 ∷ []; base = 0; len = None } ∷ [];
  starts = pos 0 ∷ [];
  sems = [];
  chans = [];
}

-- shared int x; process a { x = 2; print(x + 3); }
abbrev pub printing : Program
printing =
    program_of (expr.Const (pos 2) ∷ expr.Shared 0 ∷ expr.Const (pos 3) ∷ expr.Two op.Add 1 2 ∷ [])
    (kind.Set (target.Shared 0) 0) (kind.Print 3)
