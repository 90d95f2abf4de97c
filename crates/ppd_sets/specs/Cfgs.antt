-- The flow graph of a body.
use Rattle.std.specs.Prelude.{◌≡◌, ℕ, ◌+◌, ◌-◌, ◌<◌, ◌≤◌, List, length, slice_get, IsSomeAnd, get_or, []}
use Rattle.ppd_ast.specs.declared.program.Body.{Body}
use Rattle.ppd_ast.specs.declared.program.Program.{Program}
use Rattle.ppd_ast.specs.Members.{RisesFrom}
use Rattle.ppd_sets.specs.declared.graph.Cfg.{Cfg}
use Rattle.ppd_sets.specs.Flow.{next_of}

-- the graph has a row for statement s
abbrev pub HasStmt : Cfg → ℕ → Type 0
HasStmt g s = (g.first ≤ s) × (s < g.first + length g.rows)

-- the graph's row for statement s
abbrev pub row_of : Cfg → ℕ → List ℕ
row_of g s = get_or g.rows (s - g.first) []

-- the graph of a body has a row for each of its statements, which is its successors, rising
pub record IsFlowGraph (p : Program) (b : Body) (g : Cfg) : Type 0 where
  pub first : g.first ≡ b.first
  pub count : length g.rows ≡ b.end - b.first
  pub next : (s : ℕ) → HasStmt g s → row_of g s ≡ next_of p s
  pub rising : (s : ℕ) → HasStmt g s → RisesFrom 0 (row_of g s)

abbrev pub IsGraphOf : Program → ℕ → Cfg → Type 0
IsGraphOf p b g = IsSomeAnd (slice_get p.bodies b) (λ x. IsFlowGraph p x g)
