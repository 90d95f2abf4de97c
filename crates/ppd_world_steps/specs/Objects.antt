-- Semaphores and channels as a step finds them.
use Rattle.std.specs.Prelude.{◌+◌, ◌<◌, ◌^◌, ℤ, List, [], length}
use Rattle.ppd_model.specs.declared.state.Channel.{Channel}
use Rattle.ppd_model.specs.declared.state.Counts.{Counts}
use Rattle.ppd_model.specs.World.{World}

-- one more can be given and taken within 32 bits
pub record IsSmallSem (x : Counts) : Type 0 where
  pub given : x.given + 1 < 2 ^ 32
  pub taken : x.taken + 1 < 2 ^ 32

-- one more can be sent and received within 32 bits
pub record IsSmallChan (x : Channel) : Type 0 where
  pub sent : length x.sent + 1 < 2 ^ 32
  pub received : x.received + 1 < 2 ^ 32
  pub completed : x.completed + 1 < 2 ^ 32

-- a shared state without processes
abbrev pub store : List ℤ → List Counts → List Channel → World
store shared sems chans = record { shared = shared; sems = sems; chans = chans; procs = [] }
