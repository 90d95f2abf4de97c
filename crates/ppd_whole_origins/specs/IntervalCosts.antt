-- What the replays cost.
use Rattle.std.specs.Prelude.{ℕ, List}
use Rattle.std.specs.List.{sum_by}
use Rattle.ppd_flow_past.specs.SeenBy.{steps_in}
use Rattle.ppd_flow_past.specs.declared.past.Past.{Past}

-- the replays of these intervals, each in its own steps
abbrev pub replays_cost : Past → List (ℕ × ℕ) → ℕ
replays_cost past ms = sum_by (λ m. steps_in past m.0 m.1) ms
