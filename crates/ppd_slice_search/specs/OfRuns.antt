-- The slice of an item of a run.
use Rattle.ppd_model.specs.Setting.{Setting}
use Rattle.std.specs.Prelude.{ℕ, ◌+◌, List, [], length, sum_by, unwrap_or}
use Rattle.ppd_model.specs.FlowbackEdges.{edges}
use Rattle.ppd_model.specs.Intervals.{Split, splits}
use Rattle.ppd_model.specs.declared.tracing.Story.{Story}
use Rattle.ppd_slice_search.specs.declared.reached.ItemAt.{ItemAt}
use Rattle.ppd_slice_search.specs.declared.reached.Reached.{Reached}
use Rattle.ppd_slice_search.specs.Levels.{reached}
use Rattle.ppd_slice_search.specs.Reach.{at, places_of}

-- the items that an item's flowback edges come from
abbrev pub origins : Setting → Story → ItemAt → List ItemAt
origins setting story a =
    places_of (unwrap_or (edges setting story a.process a.interval a.item) [])

-- how many items a process has
abbrev pub items_of_process : Split → ℕ
items_of_process x = sum_by (λ i. length i.parts) x.spans

-- and all processes
abbrev pub count_items : Setting → Story → ℕ
count_items setting story = sum_by items_of_process (splits setting story)

-- the slice of item j of interval k of process p: there are no more levels than items
abbrev pub reach : Setting → Story → ℕ → ℕ → ℕ → List Reached
reach setting story p k j = reached (origins setting story) (count_items setting story + 1) (at p k j)
