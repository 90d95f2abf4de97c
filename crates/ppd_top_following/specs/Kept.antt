-- What a text that is written to holds, and how often it could not grow.
use Rattle.std.specs.Prelude.{ℕ, List}

pub record Kept : Type 0 where
  pub text : List ℕ
  pub faults : ℕ
