-- What lies under the lock.
use Rattle.std.specs.Prelude.{ℕ, List}
use Rattle.ppd_world.specs.Running.{Running}

-- a world with its logs, and a schedule
pub record Held : Type 0 where
  pub world : Running
  pub schedule : List ℕ
