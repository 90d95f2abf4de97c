-- The source that each number of a drill makes is one of the language.
use Rattle.std.specs.Prelude.{◌≤◌, ℕ}
use Rattle.ppd_ast.specs.declared.limits.TheConstants.{MOST_DRILL}
use Rattle.ppd_ast.specs.declared.program.Program.{Program}
use Rattle.ppd_check.specs.Read.{IsRead}
use Rattle.ppd_top_drill.specs.Drills.{generated}

-- the source of each number of a drill has a program
abbrev pub AreRead : Type 0
AreRead = (n : ℕ) → n ≤ MOST_DRILL → (p : Program) × IsRead (generated n) p
