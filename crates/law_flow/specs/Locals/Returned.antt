-- What a function's interval returned comes from its last item.
use Rattle.law_steps.specs.Policies.{setting_by}
use Rattle.std.specs.Prelude.{◌≡◌, ℕ, true, false, List, slice_get, Some, is_some}
use Rattle.ppd_model.specs.declared.flow.Origin.TheVariants as origin
use Rattle.std.specs.Option.{option_map_or}
use Rattle.ppd_ast.specs.Valid.{IsValid}
use Rattle.ppd_ast.specs.declared.plan.Policy.{Policy}
use Rattle.ppd_ast.specs.declared.program.Program.{Program}
use Rattle.ppd_blocks.specs.Blocks.{plan_of}
use Rattle.ppd_sem.specs.Blocks.{block_kind}
use Rattle.ppd_model.specs.FullTrace.{Tag}
use Rattle.ppd_model.specs.Intervals.{Span, Split, splits, ref}
use Rattle.ppd_model.specs.NearIntervals.{is_loop}
use Rattle.ppd_model.specs.Story.{story}
use Rattle.ppd_graph.specs.Seen.{last_item, seen_of}

-- in every schedule of a valid program, whole or not, racy or not, with the plan of a policy: the tag of the value
-- that a closed interval of a function left is of the event that the search names, the interval's last item
abbrev pub ReturnsAreFound : Type 0
ReturnsAreFound =
    (program : Program) (policy : Policy) (budget : ℕ) (h : List ℕ) (p m : ℕ) (y : Split) (i : Span) (w : Tag)
    → IsValid program
    → slice_get (splits (setting_by program policy budget) (story (setting_by program policy budget) h)) p
    ≡ Some y
    → slice_get y.spans m ≡ Some i → is_some i.closed ≡ true
    → is_loop (block_kind (plan_of program policy) i.block) ≡ false
    → slice_get i.left 0 ≡ Some w
    → (last_item (seen_of y) p m).found
    ≡ option_map_or
    (ref (splits (setting_by program policy budget) (story (setting_by program policy budget) h))) w
    origin.Initial
