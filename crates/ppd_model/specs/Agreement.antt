-- Which schedules agree.
use Rattle.ppd_model.specs.Setting.{Setting}
use Rattle.std.specs.Prelude.{◌≡◌, ℕ, List}
use Rattle.ppd_model.specs.Schedule.{IsWhole}
use Rattle.ppd_model.specs.Record.{sync_record}

-- both are whole, and their records are one
pub record Agree (setting : Setting) (h h' : List ℕ) : Type 0 where
  pub first : IsWhole setting h
  pub second : IsWhole setting h'
  pub records : sync_record setting h ≡ sync_record setting h'
