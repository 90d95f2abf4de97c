-- All that is found within a process is as the model has it.
use Rattle.law_steps.specs.Policies.{setting_by}
use Rattle.std.specs.Prelude.{◌≡◌, ℕ, List, slice_get, Some}
use Rattle.ppd_ast.specs.Valid.{IsValid}
use Rattle.ppd_ast.specs.declared.plan.Policy.{Policy}
use Rattle.ppd_ast.specs.declared.program.Program.{Program}
use Rattle.ppd_blocks.specs.Blocks.{plan_of}
use Rattle.ppd_model.specs.Intervals.{Split, splits}
use Rattle.ppd_model.specs.Story.{story}
use Rattle.law_flow.specs.Edges.Assembled.{HasOwnParts}

-- in every schedule of a valid program, whole or not, racy or not, with the plan of a policy: of each item the origins
-- that the search within the process finds are those of its edges, with which all its edges are found
abbrev pub AllOwnPartsAreFound : Type 0
AllOwnPartsAreFound =
    (program : Program) (policy : Policy) (budget : ℕ) (h : List ℕ) (p k j : ℕ) (x : Split) → IsValid program
    → slice_get (splits (setting_by program policy budget) (story (setting_by program policy budget) h)) p
    ≡ Some x
    → HasOwnParts program (plan_of program policy)
    (splits (setting_by program policy budget) (story (setting_by program policy budget) h)) x p k j
