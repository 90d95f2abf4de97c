-- The cells of a unit by flow paths.
use Rattle.std.specs.Prelude.{◌≡◌, ◌↔◌, ℕ, true, false, IsTrue, List, [], ◌∷◌, length, Some}
use Rattle.ppd_ast.specs.declared.program.Program.{Program}
use Rattle.ppd_ast.specs.declared.plan.Start.{Start}
use Rattle.ppd_ast.specs.Valid.{IsValid}
use Rattle.ppd_ast.specs.ValidPlan.{AreCells}
use Rattle.ppd_ast.specs.Members.{has}
use Rattle.ppd_sets.specs.Flow.{next_of}
use Rattle.ppd_sets.specs.Used.{reads_at}
use Rattle.ppd_blocks.specs.Walk.{is_between, begin_of, unit_cells}

-- statement s and then this list are a flow path that ends with t, and no unit starts on it
abbrev pub IsUnitPath : Program → (loops : List ℕ) → ℕ → List ℕ → ℕ → Type 0
IsUnitPath p loops s [] t = s ≡ t
IsUnitPath p loops s (u ∷ rest) t =
    IsTrue (has (next_of p s) u) × (is_between p loops s u ≡ false) × IsUnitPath p loops u rest t

-- a flow path leads from the unit's start to a statement that may read the cell, and passes no other start before it
pub record MayRead (p : Program) (loops : List ℕ) (start : Start) (c : ℕ) : Type 0 where
  pub first : ℕ
  pub begins : begin_of p loops start ≡ Some first
  pub rest : List ℕ
  pub stmt : ℕ
  pub path : IsUnitPath p loops first rest stmt
  pub read : IsTrue (has (reads_at true p stmt) c)

-- a unit has just the cells that it may read
abbrev pub CellsByPaths : Type 0
CellsByPaths =
    (p : Program) (loops : List ℕ) (start : Start) (c : ℕ) → IsValid p
    → IsTrue (has (unit_cells p loops start) c) ↔ MayRead p loops start c

-- they are shared cells, rising
abbrev pub CellsAreShared : Type 0
CellsAreShared =
    (p : Program) (loops : List ℕ) (start : Start) → IsValid p → AreCells (length p.starts) (unit_cells p loops start)
