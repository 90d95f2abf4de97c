-- How many steps a schedule has at most.
use Rattle.std.specs.Prelude.{ℕ, ◌+◌, ◌-◌, ◌*◌, length}
use Rattle.ppd_ast.specs.declared.program.Program.{Program}

-- no schedule has more numbers than this
abbrev pub most_steps : Program → ℕ → ℕ
most_steps program budget = (length program.bodies - program.functions) * (budget + 1)
