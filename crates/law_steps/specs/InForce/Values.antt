-- The shared values in force for a process: its own writes since its unit began, before that unit's values.
use Rattle.law_steps.specs.Policies.{setting_by}
use Rattle.std.specs.Option.{option_map_or}
use Rattle.std.specs.Prelude.{◌≡◌, ℕ, ◌+◌, ℤ, List, [], ◌∷◌, fold, zip, slice_get, Option, Some, None, ⊤, get_or}
use Rattle.ppd_ast.specs.declared.plan.Plan.{Plan}
use Rattle.ppd_ast.specs.declared.plan.Policy.{Policy}
use Rattle.ppd_ast.specs.declared.plan.Start.TheVariants as start
use Rattle.ppd_ast.specs.declared.program.Program.{Program}
use Rattle.ppd_ast.specs.Valid.{IsValid}
use Rattle.ppd_blocks.specs.Blocks.{plan_of}
use Rattle.ppd_sem.specs.declared.proc.Answer.TheVariants.{Value}
use Rattle.ppd_sem.specs.declared.proc.Need.{Need}
use Rattle.ppd_sem.specs.declared.proc.Need.TheVariants.{Read, Write}
use Rattle.ppd_sem.specs.Tables.{unit_of}
use Rattle.ppd_model.specs.World.{World}
use Rattle.ppd_model.specs.Schedule.{run}
use Rattle.ppd_model.specs.Story.{Moment, told, unit_started, values_of_unit}
use Rattle.ppd_model.specs.Races.{races}
use Rattle.ppd_model.specs.Replay.{value_in_force}

-- a unit that starts sets the values in force
abbrev pub with_unit : Plan → List (ℕ × ℤ) → List ℤ → Option ℕ → List (ℕ × ℤ)
with_unit plan xs values None = xs
with_unit plan xs values (Some u) = zip (option_map_or (λ u. u.cells) (slice_get plan.units u) []) values

-- a write of the process itself stands before them
abbrev pub in_force_by : Plan → List (ℕ × ℤ) → List ℤ → Need → List (ℕ × ℤ)
in_force_by plan xs values (Write c v) = (c, v) ∷ xs
in_force_by plan xs values need = with_unit plan xs values (unit_started need)

abbrev pub in_force_after : Plan → List (ℕ × ℤ) → Moment → List (ℕ × ℤ)
in_force_after plan xs m = in_force_by plan xs m.unit_values m.taken.need

-- before the first step those of the unit of the body's entry
abbrev pub begun_in_force : Program → Plan → ℕ → List (ℕ × ℤ)
begun_in_force program plan p =
    let u = unit_of plan (start.Entry (program.functions + p)) in
    zip (option_map_or (λ u. u.cells) (slice_get plan.units u) []) (values_of_unit plan program.starts u)

abbrev pub in_force : Program → Plan → ℕ → List Moment → List (ℕ × ℤ)
in_force program plan p moments = fold (in_force_after plan) (begun_in_force program plan p) moments

-- a read was answered by the value in force
abbrev pub IsRead : List (ℕ × ℤ) → Moment → Need → Type 0
IsRead xs m (Read c) = m.taken.answer ≡ Value (value_in_force xs c)
IsRead xs m need = ⊤

abbrev pub AreRead : Plan → List (ℕ × ℤ) → List Moment → Type 0
AreRead plan xs [] = ⊤
AreRead plan xs (m ∷ ms) = IsRead xs m m.taken.need × AreRead plan (in_force_after plan xs m) ms

-- in a schedule without a race each read is answered by the value in force; the only place where races matter
abbrev pub ReadsAreInForce : Type 0
ReadsAreInForce =
    (program : Program) (policy : Policy) (budget : ℕ) (h : List ℕ) (w : World) (p : ℕ)
    → IsValid program → run (setting_by program policy budget) h ≡ Some w
    → races (setting_by program policy budget) h ≡ []
    → AreRead (plan_of program policy) (begun_in_force program (plan_of program policy) p)
    (get_or (told (setting_by program policy budget) h).moments p [])
