-- The text of a slice, of what is known of a run, is that of what the run's flowback edges reach.
use Rattle.ppd_model.specs.Setting.{Setting}
use Rattle.std.specs.Prelude.{◌≡◌, ◌<◌, ℕ, List, Ok, Some, length}
use Rattle.std.specs.List.{flat_map}
use Rattle.ppd_ast.specs.Valid.{IsValid}
use Rattle.ppd_model.specs.Story.{story}
use Rattle.ppd_model.specs.declared.flow.Item.{Item}
use Rattle.ppd_session.specs.Known.{known_of_run}
use Rattle.ppd_session.specs.Texts.{told_at}
use Rattle.ppd_slice_search.specs.OfRuns.{reach}
use Rattle.ppd_top.specs.Queries.{IsSliceText, reached_line}

-- a line for each item that the edges of the run reach from item j of interval k of process q
abbrev pub lines_of_reach : Setting → (h : List ℕ) → (q k j : ℕ) → List ℕ
lines_of_reach setting h q k j =
    flat_map (reached_line setting.program) (reach setting (story setting h) q k j)

-- of each item that is told of a run the text of its slice has these lines
abbrev pub SliceTextsAreOfRuns : Type 0
SliceTextsAreOfRuns =
    (setting : Setting) (h : List ℕ) (q k j : ℕ) (text : List ℕ) → IsValid setting.program
    → (items : List Item) → told_at (known_of_run setting h) q k ≡ Some (Ok items) → j < length items
    → IsSliceText (known_of_run setting h) q k j text → text ≡ lines_of_reach setting h q k j
