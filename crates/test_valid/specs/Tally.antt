-- Marks for a window of numbers: how often each was met, where two stands for more than once.
use Rattle.std.specs.Prelude.{ℕ, ◌-◌, ◌==◌, nat_le, List, slice_index, slice_set, if◌then◌else◌}

abbrev pub more : ℕ → ℕ
more mark = if mark == 0 then 1 else 2

-- the marks of the numbers from `start` on, after number n was met
abbrev pub tally : (start : ℕ) → List ℕ → ℕ → List ℕ
tally start marks n =
    if nat_le start n then slice_set marks (n - start) (more (slice_index marks (n - start))) else marks
