-- The guided run in code: the world that it came to, and of each process's record how much was taken.
use Rattle.std.specs.Prelude.{◌≡◌, ℕ, Bool, List, [], map, drop, get_or, length, Option, option_map, if◌then◌else◌}
use Rattle.ppd_model.specs.Numbers.{sync}
use Rattle.ppd_model.specs.Synchronizations.{Sync}
use Rattle.ppd_model.specs.World.{change}
use Rattle.ppd_world.specs.Running.{Running}
use Rattle.ppd_rerun_guide.specs.Guided.{Guiding}
use Rattle.ppd_rerun_guide.specs.declared.synced.Synced.{Synced}
use Rattle.ppd_rerun_guide.specs.declared.synced.Due.{Due}

-- the synchronization that this is
abbrev pub plain : Synced → Sync
plain x = sync x.kind x.object x.number

-- the same where there is one
abbrev pub plain_if : Option Synced → Option Sync
plain_if x = option_map plain x

-- what is left of a process's record
abbrev pub left_of : Due → List Sync
left_of x = drop x.taken (map plain x.syncs)

-- the guided run that stands in this world with these records
abbrev pub guiding_of : Running → List Due → Guiding
guiding_of r dues = record { world = r.world; left = map left_of dues }

-- one is taken off the record of a process where its step is a synchronization
abbrev pub passed : Bool → ℕ → List (List Sync) → List (List Sync)
passed syncs p left = if syncs then change (drop 1) p left else left

-- nothing is left of any record
abbrev pub AreEmpty : List (List Sync) → Type 0
AreEmpty left = (q : ℕ) → get_or left q [] ≡ []

-- nothing is left, and there are records of just so many processes
pub record AreUsedUp (count : ℕ) (left : List (List Sync)) : Type 0 where
  pub count_is : length left ≡ count
  pub empty : AreEmpty left
