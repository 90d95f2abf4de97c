-- What the search finds for what a loop left.
use Rattle.law_steps.specs.Policies.{setting_by}
use Rattle.std.specs.Prelude.{◌≡◌, ℕ, ◌+◌, ℤ, true, List, slice_get, zip, Some, is_some}
use Rattle.ppd_model.specs.declared.flow.Origin.TheVariants as origin
use Rattle.std.specs.Option.{option_map_or}
use Rattle.ppd_ast.specs.Valid.{IsValid}
use Rattle.ppd_ast.specs.declared.plan.BlockKind.TheVariants as block
use Rattle.ppd_ast.specs.declared.plan.Policy.{Policy}
use Rattle.ppd_ast.specs.declared.program.Program.{Program}
use Rattle.ppd_blocks.specs.Blocks.{plan_of}
use Rattle.ppd_sem.specs.Blocks.{block_kind, postlog_cells}
use Rattle.ppd_model.specs.FlowbackEdges.{part_at}
use Rattle.ppd_model.specs.FullTrace.{Tag}
use Rattle.ppd_model.specs.Intervals.{nested, Span, Split, splits, ref}
use Rattle.ppd_model.specs.Story.{story}
use Rattle.ppd_graph.specs.Locals.{local_origin}
use Rattle.ppd_graph.specs.Own.{frame_at}
use Rattle.ppd_graph.specs.Seen.{seen_of}

-- in every schedule of a valid program, whole or not, racy or not, with the plan of a policy: for each value that a
-- closed interval of a loop left, which is item j of interval k, the search from after that item finds the event that
-- last wrote the value's cell in the loop's activation, and the start value where none did
abbrev pub LoopsLeftAreFound : Type 0
LoopsLeftAreFound =
    (program : Program) (policy : Policy) (budget : ℕ) (h : List ℕ) (p k j m n q : ℕ) (y : Split) (i : Span)
    (c : ℕ) (value : ℤ) (w : Tag)
    → IsValid program
    → slice_get (splits (setting_by program policy budget) (story (setting_by program policy budget) h)) p
    ≡ Some y
    → part_at y k j ≡ Some (nested m) → slice_get y.spans m ≡ Some i → is_some i.closed ≡ true
    → block_kind (plan_of program policy) i.block ≡ block.Loop q
    → slice_get (zip (postlog_cells (plan_of program policy) i.block) i.left) n ≡ Some (c, w)
    → slice_get i.values n ≡ Some value
    → (local_origin program (plan_of program policy) (seen_of y) p k (j + 1)
    (frame_at program (plan_of program policy) (seen_of y) k j) c).found
    ≡ option_map_or
    (ref (splits (setting_by program policy budget) (story (setting_by program policy budget) h))) w
    origin.Initial
