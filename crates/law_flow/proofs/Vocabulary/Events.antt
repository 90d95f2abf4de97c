-- What a walk back over the events of a process comes to.
use Rattle.std.specs.Prelude.{◌≡◌, ℕ, ◌+◌, ◌<◌, ◌≤◌, ℤ, Bool, true, false, List, slice_get, Option, Some, None, is_some}
use Rattle.ppd_model.specs.declared.trace.TracedEvent.{TracedEvent}
use Rattle.ppd_model.specs.FlowbackEdges.{part_at}
use Rattle.ppd_model.specs.Intervals.{own, Split}
use Rattle.ppd_graph.specs.declared.walked.Walked.{Walked}
use Rattle.ppd_graph.specs.declared.walked.Walked.TheVariants.{Stopped, Passed, Found}
use Rattle.ppd_graph.specs.Walk.{value_to}

-- the event is a synchronization
abbrev pub synchronizes : Option TracedEvent → Bool
synchronizes None = false
synchronizes (Some e) = is_some e.event.number

-- the value that the event writes to shared cell c
abbrev pub written_by : ℕ → Option TracedEvent → Option ℤ
written_by c None = None
written_by c (Some e) = value_to c e.event.writes

-- event n neither is a synchronization nor writes the cell
pub record IsQuiet (events : List TracedEvent) (c n : ℕ) : Type 0 where
  pub plain : synchronizes (slice_get events n) ≡ false
  pub unwritten : written_by c (slice_get events n) ≡ None

-- so it is with the events from number lo up to number hi
abbrev pub AreQuiet : List TracedEvent → (c lo hi : ℕ) → Type 0
AreQuiet events c lo hi = (n : ℕ) → lo ≤ n → n < hi → IsQuiet events c n

-- event n is the last synchronization among those from lo up to hi, and none since writes the cell
pub record IsLastSync (events : List TracedEvent) (c lo hi n : ℕ) : Type 0 where
  pub from : lo ≤ n
  pub to : n < hi
  pub is_sync : synchronizes (slice_get events n) ≡ true
  pub since : AreQuiet events c (n + 1) hi

-- event n, no synchronization, writes the value to the cell, and none since writes it or is a synchronization
pub record IsLastWriter (events : List TracedEvent) (c lo hi n : ℕ) (v : ℤ) : Type 0 where
  pub from : lo ≤ n
  pub to : n < hi
  pub plain : synchronizes (slice_get events n) ≡ false
  pub writes : written_by c (slice_get events n) ≡ Some v
  pub since : AreQuiet events c (n + 1) hi

-- what a walk back over these events comes to: nothing, a synchronization, or the last write at its place
abbrev pub IsWalk : Split → (c lo hi : ℕ) → Walked → Type 0
IsWalk x c lo hi Passed = AreQuiet x.trace.events c lo hi
IsWalk x c lo hi Stopped = (n : ℕ) × IsLastSync x.trace.events c lo hi n
IsWalk x c lo hi (Found k i v) =
    (n : ℕ) × (part_at x k i ≡ Some (own n)) × IsLastWriter x.trace.events c lo hi n v
