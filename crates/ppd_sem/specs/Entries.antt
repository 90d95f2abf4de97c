-- Needs to enter a block.
use Rattle.std.specs.Prelude.{⊤}
use Rattle.ppd_sem.specs.declared.proc.Need.{Need}
use Rattle.ppd_sem.specs.declared.proc.Need.TheVariants.{Enter, Invoke}

-- the step enters a loop that is a block, or calls a function
abbrev pub Begins : Need → Type 0
Begins (Enter b u) = ⊤
Begins (Invoke b u) = ⊤
Begins need = ⊥
