-- That the search by levels finds the slice, and that there is one slice.
use Rattle.ppd_model.specs.Setting.{Setting}
use Rattle.std.specs.Prelude.{◌≡◌, ℕ, ◌<◌, List, length, slice_get, Some}
use Rattle.ppd_model.specs.declared.tracing.Story.{Story}
use Rattle.ppd_model.specs.Intervals.{Part, Span, Split, splits}
use Rattle.ppd_slice_search.specs.declared.reached.ItemAt.{ItemAt}
use Rattle.ppd_slice_search.specs.declared.reached.Reached.{Reached}
use Rattle.ppd_slice_search.specs.Levels.{reached}
use Rattle.ppd_slice_search.specs.Reach.{IsIn, IsReach, at}
use Rattle.ppd_slice_search.specs.OfRuns.{origins, reach}

-- where all items are among these, the search by more levels than there are items finds the slice
abbrev pub LevelsAreReach : Type 0
LevelsAreReach =
    (next : ItemAt → List ItemAt) (items : List ItemAt) (a : ItemAt) (n : ℕ) → IsIn a items
    → ((b c : ItemAt) → IsIn b items → IsIn c (next b) → IsIn c items) → length items < n
    → IsReach next a (reached next n a)

-- an item has one slice
abbrev pub SlicesAreOne : Type 0
SlicesAreOne =
    (next : ItemAt → List ItemAt) (a : ItemAt) (rs ss : List Reached) → IsReach next a rs → IsReach next a ss → rs ≡ ss

-- in each story the slice of an item that is there is the one that `reach` computes
abbrev pub ReachesAreSlices : Type 0
ReachesAreSlices =
    (setting : Setting) (story : Story) (p k j : ℕ) (x : Split) (i : Span) (q : Part)
    → slice_get (splits setting story) p ≡ Some x → slice_get x.spans k ≡ Some i
    → slice_get i.parts j ≡ Some q
    → IsReach (origins setting story) (at p k j) (reach setting story p k j)
