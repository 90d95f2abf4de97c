-- What the whole trace costs.
use Rattle.std.specs.Prelude.{ℕ, ◌+◌, ◌*◌, List, length}
use Rattle.std.specs.List.{sum_by}
use Rattle.ppd_sem.specs.declared.event.Event.{Event}
use Rattle.ppd_flow_past.specs.declared.past.Past.{Past}
use Rattle.ppd_whole_origins.specs.Costs.{read_cost}
use Rattle.ppd_whole_origins.specs.Origins.{all_events}
use Rattle.ppd_whole_origins.specs.IntervalCosts.{replays_cost}
use Rattle.ppd_whole_origins.specs.Intervals.{all_intervals}

abbrev pub event_cost : Past → Event → ℕ
event_cost past e = 1 + length e.reads * read_cost past

-- the lines of the events of all processes
abbrev pub lines_cost : Past → List (List Event) → ℕ
lines_cost past all = sum_by (λ es. sum_by (event_cost past) es) all

-- the whole trace: the own steps of all intervals, and the lines
abbrev pub whole_cost : Past → ℕ
whole_cost past = replays_cost past (all_intervals past) + lines_cost past (all_events past)
