-- A process that replays an interval beside the one that ran it.
use Rattle.std.specs.Prelude.{◌≡◌, ℕ, List, ◌⊎◌}
use Rattle.ppd_ast.specs.declared.program.Kind.{Kind}
use Rattle.ppd_ast.specs.declared.program.Kind.TheVariants.{If, While, Call}

-- ---- what the program and the plan must keep

-- a list of statements that stands in one of this kind
abbrev pub IsListOf : Kind → List ℕ → Type 0
IsListOf (If e first second) stmts = (stmts ≡ first) ⊎ (stmts ≡ second)
IsListOf (While e body) stmts = stmts ≡ body
IsListOf k stmts = ⊥

abbrev pub IsCallOf : Kind → ℕ → Type 0
IsCallOf (Call g arguments into) f = f ≡ g
IsCallOf k f = ⊥
