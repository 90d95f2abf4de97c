-- The constants of a source.
use Rattle.std.specs.Prelude.{ℕ, List}
use Rattle.ppd_ast.specs.declared.program.Program.{Program}
use Rattle.ppd_check.specs.Read.{IsRead}
use Rattle.law_logs.specs.Recording.Values.{HasConstantsOf64Bits}

-- the program of each source has constants of 64 bits: its numbers are those of tokens, 0 and 1
abbrev pub ConstantsHave64Bits : Type 0
ConstantsHave64Bits = (source : List ℕ) (program : Program) → IsRead source program → HasConstantsOf64Bits program
