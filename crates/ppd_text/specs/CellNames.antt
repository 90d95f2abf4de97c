-- How processes, cells and the words of traps are written.
use Rattle.ppd_ast.specs.Cells.{holds}
use Rattle.ppd_ast.specs.Lookups.{body_numbered}
use Rattle.ppd_ast.specs.declared.program.Program.{Program}
use Rattle.ppd_ast.specs.declared.program.Var.{Var}
use Rattle.ppd_ast.specs.declared.status.Trap.{Trap}
use Rattle.ppd_ast.specs.declared.status.Trap.TheVariants as trap
use Rattle.ppd_model.specs.declared.entry.At.{At}
use Rattle.std.specs.Prelude.{List, [], codes, decimal, if◌then◌else◌, is_none, ℕ, ◌++◌, ◌+◌, ◌-◌, ◌∷◌}

-- the name of process k
abbrev pub process_name : Program → ℕ → List ℕ
process_name p k = (body_numbered p (p.functions + k)).name

-- the line of a test that failed at an entry of a process, which begins with these words
abbrev pub at_entry : Program → List ℕ → At → List ℕ
at_entry p words at = words ++ process_name p at.process ++ codes " " ++ decimal at.entry ++ codes "\n"

-- cell c as a part of the first of these variables that holds it: an element of an array with its index
abbrev pub cell_text : List Var → ℕ → List ℕ
cell_text [] c = []
cell_text (v ∷ vs) c =
    if holds c v then v.name ++ (if is_none v.len then [] else codes "[" ++ decimal (c - v.base) ++ codes "]")
    else cell_text vs c

abbrev pub trap_word : Trap → List ℕ
trap_word trap.Overflow = codes "overflow"
trap_word trap.Zero = codes "zero"
trap_word trap.Index = codes "index"
trap_word trap.Assert = codes "assert"
trap_word trap.Depth = codes "depth"
