-- The unit in force, and that each shared read lies in its cells.
use Rattle.law_steps.specs.Policies.{setting_by}
use Rattle.ppd_model.specs.Setting.{Setting}
use Rattle.std.specs.Prelude.{◌≡◌, ℕ, ◌+◌, IsTrue, List, ◌∷◌, ◌++◌, fold, Option, Some, None, unwrap_or, slice_get, get_or, []}
use Rattle.ppd_ast.specs.declared.plan.Plan.{Plan}
use Rattle.ppd_ast.specs.declared.plan.Policy.{Policy}
use Rattle.ppd_ast.specs.declared.plan.Start.TheVariants as start
use Rattle.ppd_ast.specs.declared.plan.Unit.{Unit as UnitOf}
use Rattle.ppd_ast.specs.declared.program.Program.{Program}
use Rattle.ppd_ast.specs.Valid.{IsValid}
use Rattle.ppd_ast.specs.Members.{has}
use Rattle.ppd_model.specs.declared.entry.Entry.{Entry}
use Rattle.ppd_model.specs.declared.entry.Entry.TheVariants as entry
use Rattle.ppd_blocks.specs.Blocks.{plan_of}
use Rattle.ppd_sem.specs.declared.proc.Need.TheVariants.{Read}
use Rattle.ppd_sem.specs.Tables.{unit_of}
use Rattle.ppd_model.specs.declared.tracing.Taken.{Taken}
use Rattle.ppd_model.specs.Logs.{log_of}
use Rattle.ppd_model.specs.Story.{Moment, steps_of, story, unit_started}

-- the unit in force after a step: the one that the step starts, or else the one before
abbrev pub unit_after : ℕ → Taken → ℕ
unit_after unit x = unwrap_or (unit_started x.need) unit

-- the unit in force after these steps of process p: before the first one it is the unit of its body's entry
abbrev pub unit_in_force : Program → Plan → ℕ → List Taken → ℕ
unit_in_force program plan p steps = fold unit_after (unit_of plan (start.Entry (program.functions + p))) steps

-- ---- the unit in force by the log

-- the unit of the last Unit entry so far
abbrev pub unit_logged : Option ℕ → Entry → Option ℕ
unit_logged before (entry.Unit u values) = Some u
unit_logged before e = before

-- the unit of the last Unit entry of a log
abbrev pub last_unit : List Entry → Option ℕ
last_unit entries = fold unit_logged None entries

-- the unit in force after the steps of a process is that of the last Unit entry of its log
abbrev pub IsLastOfLog : Type 0
IsLastOfLog =
    (setting : Setting) (p : ℕ) (moments : List Moment)
    → last_unit (log_of setting p moments).entries
    ≡ Some (unit_in_force setting.program setting.plan p (steps_of moments))

-- ---- reads

-- the plan has a unit with this number, and the cell is one of its cells
pub record IsCellOf (plan : Plan) (unit c : ℕ) : Type 0 where
  pub found : UnitOf
  pub there : slice_get plan.units unit ≡ Some found
  pub among : IsTrue (has found.cells c)

-- each shared cell that a process reads is a cell of the unit in force
abbrev pub ReadsLieInCells : Type 0
ReadsLieInCells =
    (program : Program) (policy : Policy) (budget : ℕ) (h : List ℕ) (p : ℕ) (before : List Taken) (taken : Taken)
    (after : List Taken) (c : ℕ)
    → IsValid program → get_or (story (setting_by program policy budget) h).steps p [] ≡ before ++ taken ∷ after
    → taken.need ≡ Read c
    → IsCellOf (plan_of program policy) (unit_in_force program (plan_of program policy) p before) c
