-- Which expressions expressions and statements use, and how large an expression is.
use Rattle.std.specs.Prelude.{ℕ, ◌+◌, max, List, [], ◌∷◌, ◌++◌, option_to_list}
use Rattle.std.specs.List.{flat_map}
use Rattle.ppd_ast.specs.declared.program.Expr.{Expr}
use Rattle.ppd_ast.specs.declared.program.Expr.TheVariants as E
use Rattle.ppd_ast.specs.declared.program.Target.TheVariants as T
use Rattle.ppd_ast.specs.declared.program.Kind.{Kind}
use Rattle.ppd_ast.specs.declared.program.Kind.TheVariants as K
use Rattle.ppd_ast.specs.declared.program.Stmt.{Stmt}
use Rattle.ppd_ast.specs.declared.program.Program.{Program}
use Rattle.ppd_ast.specs.Term.{Term, const, local, local_at, shared, shared_at, neg, not, two, and, or}

-- the expressions that an expression uses, in order of evaluation
abbrev pub children : Expr → List ℕ
children (E.Const v) = []
children (E.Local c) = []
children (E.LocalAt base len i) = i ∷ []
children (E.Shared c) = []
children (E.SharedAt base len i) = i ∷ []
children (E.Neg a) = a ∷ []
children (E.Not a) = a ∷ []
children (E.Two op a b) = a ∷ b ∷ []
children (E.And a b) = a ∷ b ∷ []
children (E.Or a b) = a ∷ b ∷ []

-- the expressions that a statement uses, in order of evaluation
abbrev pub kind_uses : Kind → List ℕ
kind_uses (K.Set (T.Local c) e) = e ∷ []
kind_uses (K.Set (T.LocalAt base len i) e) = i ∷ e ∷ []
kind_uses (K.Set (T.Shared c) e) = e ∷ []
kind_uses (K.Set (T.SharedAt base len i) e) = i ∷ e ∷ []
kind_uses (K.Zero base len) = []
kind_uses (K.If e first second) = e ∷ []
kind_uses (K.While e body) = e ∷ []
kind_uses (K.Call f args into) = args
kind_uses (K.Return v) = option_to_list v
kind_uses (K.P s) = []
kind_uses (K.V s) = []
kind_uses (K.Send c e) = e ∷ []
kind_uses (K.Recv c into) = []
kind_uses (K.Print e) = e ∷ []
kind_uses (K.Assert e) = e ∷ []
kind_uses K.End = []

abbrev pub stmt_uses : Stmt → List ℕ
stmt_uses s = kind_uses s.kind

-- each use of an expression, by an expression or by a statement
abbrev pub uses_of : List Expr → List Stmt → List ℕ
uses_of exprs stmts = flat_map children exprs ++ flat_map stmt_uses stmts

abbrev pub uses : Program → List ℕ
uses p = uses_of p.exprs p.stmts

-- the operators in an expression; an index is none
abbrev pub operators_of : Term → ℕ
operators_of (const v) = 0
operators_of (local c) = 0
operators_of (local_at base len i) = operators_of i
operators_of (shared c) = 0
operators_of (shared_at base len i) = operators_of i
operators_of (neg a) = 1 + operators_of a
operators_of (not a) = 1 + operators_of a
operators_of (two op a b) = 1 + operators_of a + operators_of b
operators_of (and a b) = 1 + operators_of a + operators_of b
operators_of (or a b) = 1 + operators_of a + operators_of b

-- the nodes on the longest way from the root to a leaf
abbrev pub depth_of : Term → ℕ
depth_of (const v) = 1
depth_of (local c) = 1
depth_of (local_at base len i) = 1 + depth_of i
depth_of (shared c) = 1
depth_of (shared_at base len i) = 1 + depth_of i
depth_of (neg a) = 1 + depth_of a
depth_of (not a) = 1 + depth_of a
depth_of (two op a b) = 1 + max (depth_of a) (depth_of b)
depth_of (and a b) = 1 + max (depth_of a) (depth_of b)
depth_of (or a b) = 1 + max (depth_of a) (depth_of b)
