-- The successors of statements, and the cells that loops use and define.
use Rattle.std.proofs.Common.{◌≡◌, refl}
use Rattle.std.specs.Prelude.{pos, true, false, [], ◌∷◌, None, Some, map}
use Rattle.ppd_ast.specs.Order.{preorder}
use Rattle.ppd_ast.specs.Term.{terms}
use Rattle.ppd_ast.specs.declared.program.Expr.TheVariants as expr
use Rattle.ppd_ast.specs.declared.program.Kind.TheVariants as kind
use Rattle.ppd_ast.specs.declared.program.Op.TheVariants as op
use Rattle.ppd_ast.specs.declared.program.Program.{Program}
use Rattle.ppd_ast.specs.declared.program.Target.TheVariants as target
use Rattle.ppd_sets.specs.Flow.{flow_rows, follow_at}
use Rattle.ppd_sets.specs.Used.{sorted, local_in, reads_at, writes_at}
use Rattle.rows_programs.proofs.Runs.CalleeWrite as callee
use Rattle.rows_programs.proofs.Runs.Tables.{stmt_in, scalar, array, body_of}

pub callee_flows : flow_rows callee.program ≡ (1 ∷ []) ∷ [] ∷ (3 ∷ []) ∷ (4 ∷ []) ∷ (5 ∷ []) ∷ [] ∷ []
unfolding follow_at
callee_flows = refl

-- void g() { int k; if (k) { k = 1; } return; }
-- process a { int i = 0; if (i) { } else { i = 1; } while (i) { } while (i) { while (i) { i = 2; } if (i) { i = 3; } } }
abbrev branching : Program
branching = record {
  exprs =
      expr.Const (pos 0) ∷ expr.Local 0 ∷ expr.Const (pos 1) ∷ expr.Const (pos 0) ∷ expr.Local 0 ∷ expr.Const (pos 1)
      ∷ expr.Local 0 ∷ expr.Local 0 ∷ expr.Local 0 ∷ expr.Const (pos 2) ∷ expr.Local 0 ∷ expr.Const (pos 3) ∷ [];
  stmts =
      stmt_in 0 1 1 None (kind.Set (target.Local 0) 0)
      ∷ stmt_in 0 1 2 None (kind.If 1 (2 ∷ []) [])
      ∷ stmt_in 0 1 3 (Some 1) (kind.Set (target.Local 0) 2)
      ∷ stmt_in 0 1 4 None (kind.Return None)
      ∷ stmt_in 1 2 1 None (kind.Set (target.Local 0) 3)
      ∷ stmt_in 1 2 2 None (kind.If 4 [] (6 ∷ []))
      ∷ stmt_in 1 2 3 (Some 5) (kind.Set (target.Local 0) 5)
      ∷ stmt_in 1 2 4 None (kind.While 6 [])
      ∷ stmt_in 1 2 5 None (kind.While 7 (9 ∷ 11 ∷ []))
      ∷ stmt_in 1 2 6 (Some 8) (kind.While 8 (10 ∷ []))
      ∷ stmt_in 1 2 7 (Some 9) (kind.Set (target.Local 0) 9)
      ∷ stmt_in 1 2 8 (Some 8) (kind.If 10 (12 ∷ []) [])
      ∷ stmt_in 1 2 9 (Some 11) (kind.Set (target.Local 0) 11)
      ∷ stmt_in 1 2 10 None kind.End ∷ [];
  bodies =
      body_of 103 false 0 false (scalar 107 0 ∷ []) 1 (0 ∷ 1 ∷ 3 ∷ []) 0 4
      ∷ body_of 97 true 0 false (scalar 105 0 ∷ []) 1 (4 ∷ 5 ∷ 7 ∷ 8 ∷ 13 ∷ []) 4 14 ∷ [];
  functions = 1;
  shared = [];
  starts = [];
  sems = [];
  chans = [];
}

-- a `return` behind an `if`; an empty branch, an empty loop body, a loop in a loop, an `if` at the end of a loop body
pub branching_flows : flow_rows branching ≡
    (1 ∷ []) ∷ (2 ∷ 3 ∷ []) ∷ (3 ∷ []) ∷ []
    ∷ (5 ∷ []) ∷ (6 ∷ 7 ∷ []) ∷ (7 ∷ []) ∷ (7 ∷ 8 ∷ []) ∷ (9 ∷ 13 ∷ []) ∷ (10 ∷ 11 ∷ []) ∷ (9 ∷ []) ∷ (8 ∷ 12 ∷ [])
    ∷ (8 ∷ []) ∷ [] ∷ []
unfolding follow_at
branching_flows = refl

-- the last is an `if`, which is no loop
pub branching_used : map (local_in branching (reads_at false branching)) (7 ∷ 8 ∷ 9 ∷ 5 ∷ []) ≡ (0 ∷ []) ∷ (0 ∷ []) ∷ (0 ∷ []) ∷ [] ∷ []
unfolding terms preorder sorted
branching_used = refl

pub branching_defined : map (local_in branching (writes_at false branching)) (7 ∷ 8 ∷ 9 ∷ 5 ∷ []) ≡ [] ∷ (0 ∷ []) ∷ (0 ∷ []) ∷ [] ∷ []
unfolding terms preorder sorted
branching_defined = refl

-- shared int u, a[3], v; process p { int b[2], i, k; while (a[i]) { b[1] = v; a[0] = b[k - u]; } }
abbrev arrays : Program
arrays = record {
  exprs =
      expr.Const (pos 0) ∷ expr.Const (pos 0) ∷ expr.Local 2 ∷ expr.SharedAt 1 3 2 ∷ expr.Const (pos 1) ∷ expr.Shared 4
      ∷ expr.Const (pos 0) ∷ expr.Local 3 ∷ expr.Shared 0 ∷ expr.Two op.Sub 7 8 ∷ expr.LocalAt 0 2 9 ∷ [];
  stmts =
      stmt_in 0 1 1 None (kind.Zero 0 2)
      ∷ stmt_in 0 1 2 None (kind.Set (target.Local 2) 0)
      ∷ stmt_in 0 1 3 None (kind.Set (target.Local 3) 1)
      ∷ stmt_in 0 1 4 None (kind.While 3 (4 ∷ 5 ∷ []))
      ∷ stmt_in 0 1 5 (Some 3) (kind.Set (target.LocalAt 0 2 4) 5)
      ∷ stmt_in 0 1 6 (Some 3) (kind.Set (target.SharedAt 1 3 6) 10)
      ∷ stmt_in 0 1 7 None kind.End ∷ [];
  bodies =
      body_of 112 true 0 false (array 98 0 2 ∷ scalar 105 2 ∷ scalar 107 3 ∷ []) 4 (0 ∷ 1 ∷ 2 ∷ 3 ∷ 6 ∷ []) 0 7 ∷ [];
  functions = 0;
  shared = scalar 117 0 ∷ array 97 1 3 ∷ scalar 118 4 ∷ [];
  starts = pos 0 ∷ pos 0 ∷ pos 0 ∷ pos 0 ∷ pos 0 ∷ [];
  sems = [];
  chans = [];
}

-- arrays are whole
pub arrays_used : map (local_in arrays (reads_at false arrays)) (3 ∷ 4 ∷ []) ≡ (0 ∷ 1 ∷ 2 ∷ 3 ∷ []) ∷ [] ∷ []
unfolding terms preorder sorted
arrays_used = refl

pub arrays_defined : map (local_in arrays (writes_at false arrays)) (3 ∷ 4 ∷ []) ≡ (0 ∷ 1 ∷ []) ∷ [] ∷ []
unfolding terms preorder sorted
arrays_defined = refl

-- int f() { return 7; } process a { int v, i; while (i) { v = f(); } }
abbrev calling : Program
calling = record {
  exprs = expr.Const (pos 7) ∷ expr.Const (pos 0) ∷ expr.Const (pos 0) ∷ expr.Local 1 ∷ [];
  stmts =
      stmt_in 0 1 1 None (kind.Return (Some 0))
      ∷ stmt_in 1 1 2 None (kind.Set (target.Local 0) 1)
      ∷ stmt_in 1 1 3 None (kind.Set (target.Local 1) 2)
      ∷ stmt_in 1 1 4 None (kind.While 3 (4 ∷ []))
      ∷ stmt_in 1 1 5 (Some 3) (kind.Call 0 [] (Some 0))
      ∷ stmt_in 1 1 6 None kind.End ∷ [];
  bodies =
      body_of 102 false 0 true [] 0 (0 ∷ []) 0 1
      ∷ body_of 97 true 0 false (scalar 118 0 ∷ scalar 105 1 ∷ []) 2 (1 ∷ 2 ∷ 3 ∷ 5 ∷ []) 1 6 ∷ [];
  functions = 1;
  shared = [];
  starts = [];
  sems = [];
  chans = [];
}

pub calling_flows : flow_rows calling ≡ [] ∷ (2 ∷ []) ∷ (3 ∷ []) ∷ (4 ∷ 5 ∷ []) ∷ (3 ∷ []) ∷ [] ∷ []
unfolding follow_at
calling_flows = refl

-- a call writes its receiving local
pub calling_used : local_in calling (reads_at false calling) 3 ≡ 1 ∷ []
unfolding terms preorder sorted
calling_used = refl

pub calling_defined : local_in calling (writes_at false calling) 3 ≡ 0 ∷ []
unfolding terms preorder sorted
calling_defined = refl
