-- What the search for the edges of an item, or for a last value, replays has few own steps.
use Rattle.ppd_model.specs.Setting.{Setting}
use Rattle.std.specs.Prelude.{◌≡◌, ℕ, ◌+◌, ◌*◌, ◌<◌, ◌≤◌, List, [], length, slice_get, sum_by, Option, Some, None}
use Rattle.ppd_ast.specs.Valid.{IsValid}
use Rattle.ppd_model.specs.declared.flow.FlowEdge.{FlowEdge}
use Rattle.ppd_model.specs.FlowbackEdges.{edges}
use Rattle.ppd_model.specs.Intervals.{Split, splits}
use Rattle.ppd_model.specs.Logs.{closed_logs}
use Rattle.ppd_model.specs.NearIntervals.{last_steps, near_steps}
use Rattle.ppd_model.specs.Races.{races}
use Rattle.ppd_model.specs.Schedule.{run}
use Rattle.ppd_model.specs.Story.{story}
use Rattle.ppd_model.specs.World.{World}
use Rattle.ppd_graph.specs.Found.{found_edges}
use Rattle.ppd_graph.specs.Shared.{found_last}
use Rattle.ppd_graph.specs.Spans.{steps_of_span}
use Rattle.law_flow.specs.Edges.Assembled.{HasOwnParts}
use Rattle.law_flow.specs.Edges.SharedEdges.{all_seen}

-- the own steps of interval m of a process, 0 where it or the process is not there
abbrev pub steps_in : Option Split → ℕ → ℕ
steps_in None m = 0
steps_in (Some x) m = steps_of_span (slice_get x.spans m)

-- of all these intervals, each by its process and its number, as often as it is listed
abbrev pub steps_of_all : List Split → List (ℕ × ℕ) → ℕ
steps_of_all xs ms = sum_by (λ m. steps_in (slice_get xs m.0) m.1) ms

-- in a run of a valid program without a race, where the edges of an item within its process are found: what is
-- replayed to find the n edges of the item has at most 2 (n + 1) times the own steps of the intervals near to it
abbrev pub EdgesCostLittle : Type 0
EdgesCostLittle =
    (setting : Setting) (h : List ℕ) (w : World) (p k j : ℕ) (x : Split) (es : List FlowEdge)
    → IsValid setting.program → run setting h ≡ Some w → races setting h ≡ []
    → slice_get (splits setting (story setting h)) p ≡ Some x
    → HasOwnParts setting.program setting.plan (splits setting (story setting h)) x p k j
    → edges setting (story setting h) p k j ≡ Some es
    → steps_of_all (splits setting (story setting h))
    (found_edges setting.program setting.plan (closed_logs setting h) (all_seen setting h) p k j).replays
    ≤ 2 * (length es + 1) * near_steps setting (story setting h) p k j

-- and what is replayed to find the last value of a cell has no more than those intervals that are open where it was
-- written, and nothing is replayed for a start value
abbrev pub LastCostsLittle : Type 0
LastCostsLittle =
    (setting : Setting) (h : List ℕ) (w : World) (c : ℕ)
    → IsValid setting.program → run setting h ≡ Some w → races setting h ≡ []
    → c < length setting.program.starts
    → steps_of_all (splits setting (story setting h))
    (found_last setting.program (closed_logs setting h) (all_seen setting h) c).replays
    ≤ last_steps setting (story setting h) c
