-- Which values a run has: each has 64 bits.
use Rattle.ppd_model.specs.Setting.{Setting}
use Rattle.std.specs.Prelude.{ℕ, ℤ, List, FitsSigned, ⊤}
use Rattle.std.specs.Int.{w64}
use Rattle.std.specs.List.{AllByRecursion}
use Rattle.ppd_ast.specs.declared.program.Expr.{Expr}
use Rattle.ppd_ast.specs.declared.program.Expr.TheVariants as expr
use Rattle.ppd_ast.specs.declared.program.Program.{Program}
use Rattle.ppd_model.specs.Story.{told}
use Rattle.ppd_model.specs.World.{World}
use Rattle.ppd_sem.specs.declared.proc.Proc.{Proc}

-- ---- a program's own numbers

abbrev pub IsConstantOf64Bits : Expr → Type 0
IsConstantOf64Bits (expr.Const v) = FitsSigned w64 v
IsConstantOf64Bits e = ⊤

-- the constants and the start values of the shared cells have 64 bits
pub record HasConstantsOf64Bits (program : Program) : Type 0 where
  pub exprs : AllByRecursion IsConstantOf64Bits program.exprs
  pub starts : AllByRecursion (FitsSigned w64) program.starts

-- ---- the values of a run

abbrev pub AreOf64Bits : List ℤ → Type 0
AreOf64Bits vs = AllByRecursion (FitsSigned w64) vs

-- the local cells of a process, and the answers that its statement has, have 64 bits
pub record HasLocalsOf64Bits (s : Proc) : Type 0 where
  pub frames : AllByRecursion (λ f. AreOf64Bits f.cells) s.frames
  pub answers : AreOf64Bits s.answers

-- and so have all shared cells and all values sent
pub record HasValuesOf64Bits (w : World) : Type 0 where
  pub shared : AreOf64Bits w.shared
  pub sent : AllByRecursion (λ c. AreOf64Bits c.sent) w.chans
  pub procs : AllByRecursion HasLocalsOf64Bits w.procs

-- so it is after each schedule: a result that has more is an overflow
abbrev pub ValuesHave64Bits : Type 0
ValuesHave64Bits =
    (setting : Setting) (h : List ℕ) → HasConstantsOf64Bits setting.program
    → HasValuesOf64Bits (told setting h).world
