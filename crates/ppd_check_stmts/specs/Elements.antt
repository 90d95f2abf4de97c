-- How much a table holds.
use Rattle.std.specs.Prelude.{ℕ, ◌+◌, List, [], ◌∷◌, length}
use Rattle.ppd_ast.specs.declared.program.Kind.{Kind}
use Rattle.ppd_ast.specs.declared.program.Kind.TheVariants as K
use Rattle.ppd_ast.specs.declared.program.Stmt.{Stmt}
use Rattle.ppd_ast.specs.declared.program.Body.{Body}
use Rattle.ppd_ast.specs.declared.program.Program.{Program}

-- the numbers that a statement lists
abbrev pub listed_by : Kind → ℕ
listed_by (K.If e first second) = length first + length second
listed_by (K.While e inside) = length inside
listed_by (K.Call f args into) = length args
listed_by _ = 0

-- statements with the numbers that they list
abbrev pub stmts_elements : List Stmt → ℕ
stmts_elements [] = 0
stmts_elements (s ∷ ss) = 1 + listed_by s.kind + stmts_elements ss

-- bodies with their variables and the numbers of their outermost statements
abbrev pub bodies_elements : List Body → ℕ
bodies_elements [] = 0
bodies_elements (b ∷ bs) = 1 + length b.locals + length b.top + bodies_elements bs

-- The elements of a table's lists. A name counts with what bears it: in a valid program it has 64 bytes at most. The
-- start values of the shared cells are left out: a short source may declare as many as a program may have.
abbrev pub elements_of : Program → ℕ
elements_of p =
    length p.exprs + stmts_elements p.stmts + bodies_elements p.bodies + length p.shared + length p.sems
    + length p.chans
