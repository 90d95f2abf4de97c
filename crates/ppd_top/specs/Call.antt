-- A call of the program: its words, how its devices stood before and after it, and its outcome.
use Rattle.std.specs.Prelude.{◌≡◌, ℕ, List, Option}
use Rattle.std.specs.Borrow.{Bor}
use Rattle.ppd_io.specs.Causes.{Rose}
use Rattle.ppd_io.specs.Content.{Appends}
use Rattle.ppd_top_commands.specs.Output.{Standing}

-- how the devices stand: what the shelf is told to hold, its counts of loads and of stores that failed, and input and
-- output
pub record Devices : Type 0 where
  pub held : Option (List ℕ → Option (List ℕ))
  pub loads : List ℕ → ℕ
  pub stores : List ℕ → ℕ
  pub io : Standing

abbrev pub devices : Option (List ℕ → Option (List ℕ)) → (loads stores : List ℕ → ℕ) → Standing → Devices
devices held loads stores io = record { held = held; loads = loads; stores = stores; io = io }

-- the words after the program's name, the devices before and after, and the schedule and the status of the outcome
pub record Call : Type 0 where
  pub words : List (Bor (List ℕ))
  pub before : Devices
  pub after : Devices
  pub schedule : List ℕ
  pub status : ℕ

abbrev pub call_of : List (Bor (List ℕ)) → (before after : Devices) → (schedule : List ℕ) → (status : ℕ) → Call
call_of words before after schedule status =
    record { words = words; before = before; after = after; schedule = schedule; status = status }

-- ---- what it wrote

abbrev pub Wrote : Call → (text : List ℕ) → Type 0
Wrote c text = Appends c.before.io.written c.after.io.written text

-- ---- what it left as it was

-- nothing was stored
pub record LeftShelf (c : Call) : Type 0 where
  pub held : c.after.held ≡ c.before.held
  pub stores : (n : List ℕ) → c.after.stores n ≡ c.before.stores n

-- ---- which device failed in it: its count of faults rose

abbrev pub HasFailedLoad : Call → (name : List ℕ) → Type 0
HasFailedLoad c name = Rose (c.before.loads name) (c.after.loads name)

abbrev pub HasFailedWrite : Call → Type 0
HasFailedWrite c = Rose c.before.io.writes c.after.io.writes
