-- What leads to a synchronization by its number.
use Rattle.std.specs.Prelude.{ℕ, zero, suc, ◌-◌, nat_le, Option, Some, None, if◌then◌else◌}
use Rattle.ppd_model.specs.SyncKind.{SyncKind}
use Rattle.ppd_model.specs.SyncKind.TheVariants.{P, V, Send, Recv, Done}
use Rattle.ppd_model.specs.Numbers.{sync}
use Rattle.ppd_model.specs.Synchronizations.{Sync}

-- the one that leads to a synchronization by its number, by the capacity of its object: to a `P` the `V`, to
-- a receive the send, to a send the receive that freed its place; of a channel of capacity 0, to a
-- completion the receive, and to a send the completion before it
abbrev pub wanted_by : ℕ → SyncKind → ℕ → ℕ → Option Sync
wanted_by capacity P o k = Some (sync V o k)
wanted_by capacity V o k = None
wanted_by capacity Recv o k = Some (sync Send o k)
wanted_by zero Done o k = Some (sync Recv o k)
wanted_by (suc c) Done o k = None
wanted_by zero Send o zero = None
wanted_by zero Send o (suc k) = Some (sync Done o k)
wanted_by (suc c) Send o k = if nat_le (suc c) k then Some (sync Recv o (k - suc c)) else None

-- the synchronization of this object, by a kind and a number
abbrev pub named : ℕ → Option (SyncKind × ℕ) → Option Sync
named o None = None
named o (Some w) = Some (sync w.0 o w.1)
