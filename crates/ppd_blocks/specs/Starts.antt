-- The units in the order of their numbers.
use Rattle.std.specs.Prelude.{ℕ, List, [], ◌∷◌, map, if◌then◌else◌}
use Rattle.std.specs.List.{flat_map, enumerate_from}
use Rattle.ppd_ast.specs.declared.program.Program.{Program}
use Rattle.ppd_ast.specs.declared.plan.Start.{Start}
use Rattle.ppd_ast.specs.declared.plan.Start.TheVariants.{Entry, After, Enter, Exit}
use Rattle.ppd_ast.specs.declared.plan.Unit.{Unit as UnitOf}
use Rattle.ppd_ast.specs.Numbered.{is_left, numbers_of}
use Rattle.ppd_ast.specs.Members.{has}
use Rattle.ppd_ast.specs.Lookups.{kind_of}
use Rattle.ppd_blocks.specs.Walk.{unit_cells}

-- the starts at statement k: after a call or a synchronization, and at the entry and the exit of a block loop
abbrev pub unit_starts_at : Program → (loops : List ℕ) → ℕ → List Start
unit_starts_at p loops k =
    if is_left (kind_of p k) then After k ∷ []
    else if has loops k then Enter k ∷ Exit k ∷ []
    else []

abbrev pub unit_of : Program → (loops : List ℕ) → Start → UnitOf
unit_of p loops start = record { start = start; cells = unit_cells p loops start }

-- the units of a program with these block loops: of each body that of its entry, then those at its statements
abbrev pub units_of : Program → (loops : List ℕ) → List UnitOf
units_of p loops =
    map (unit_of p loops)
    (flat_map (λ e. Entry e.0 ∷ flat_map (unit_starts_at p loops) (numbers_of p.stmts e.1)) (enumerate_from 0 p.bodies))
