-- Laws of USED and DEFINED.
use Rattle.std.specs.Prelude.{◌≡◌, ◌↔◌, ◌<◌, ℕ, IsTrue, Some, slice_get, true, false}
use Rattle.ppd_ast.specs.declared.program.Program.{Program}
use Rattle.ppd_ast.specs.declared.program.Var.{Var}
use Rattle.ppd_ast.specs.Numbered.{is_while}
use Rattle.ppd_ast.specs.Valid.{IsValid}
use Rattle.ppd_ast.specs.Members.{has}
use Rattle.ppd_ast.specs.Lookups.{kind_of}
use Rattle.ppd_sets.specs.Used.{IsUsed, IsDefined, IsLoopUsed, IsLoopDefined, shared_through, reads_at, writes_at, local_in}

-- the list holds just the variables that some statement of a called body may read
abbrev pub UsedByChains : Type 0
UsedByChains =
    (p : Program) (b v : ℕ) (x : Var) → v < 65536 → slice_get p.shared v ≡ Some x
    → IsTrue (has (shared_through p (reads_at true p) b) v) ↔ IsUsed p b x

-- and just those that some statement of a called body writes
abbrev pub DefinedByChains : Type 0
DefinedByChains =
    (p : Program) (b v : ℕ) (x : Var) → v < 65536 → slice_get p.shared v ≡ Some x
    → IsTrue (has (shared_through p (writes_at true p) b) v) ↔ IsDefined p b x

-- the list of a loop holds just the local cells that its test or a statement inside may read
abbrev pub LoopUsedByStatements : Type 0
LoopUsedByStatements =
    (p : Program) (q c : ℕ) → IsValid p → IsTrue (is_while (kind_of p q))
    → IsTrue (has (local_in p (reads_at false p) q) c) ↔ IsLoopUsed p q c

-- and just those that a statement inside writes
abbrev pub LoopDefinedByStatements : Type 0
LoopDefinedByStatements =
    (p : Program) (q c : ℕ) → IsValid p → IsTrue (is_while (kind_of p q))
    → IsTrue (has (local_in p (writes_at false p) q) c) ↔ IsLoopDefined p q c
