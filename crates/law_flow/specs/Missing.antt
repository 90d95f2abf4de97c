-- A write that is missing: an entry that ends an internal edge has the cell in its write set, and no event of that
-- edge, as replays give them, writes the cell.
use Rattle.ppd_ast.specs.Members.{has}
use Rattle.ppd_ast.specs.declared.plan.Plan.{Plan}
use Rattle.ppd_ast.specs.declared.program.Program.{Program}
use Rattle.ppd_model.specs.declared.entry.Entry.{Entry}
use Rattle.ppd_model.specs.declared.entry.Entry.TheVariants as entry
use Rattle.ppd_model.specs.declared.entry.Logs.{Logs}
use Rattle.ppd_graph.specs.Ends.{end_interval, end_item, ends_edge, syncs_before}
use Rattle.ppd_graph.specs.Found.{found_edges}
use Rattle.ppd_graph.specs.Seen.{Seen, place_of}
use Rattle.ppd_graph.specs.Shared.{Missing, found_last, seen_at, shared_origin}
use Rattle.ppd_graph.specs.Walk.{is_shared}
use Rattle.ppd_index.specs.Refusals.{first_in_lists}
use Rattle.ppd_model.specs.HappenedBefore.{edge}
use Rattle.ppd_model.specs.declared.flow.Item.{Item}
use Rattle.ppd_model.specs.declared.flow.Item.TheVariants as item
use Rattle.ppd_model.specs.declared.graph.EdgeId.{EdgeId}
use Rattle.ppd_sem.specs.declared.event.Event.{Event}
use Rattle.std.specs.List.{list_any}
use Rattle.std.specs.Prelude.{Err, List, None, Some, [], false, fold, get_or, if◌then◌else◌, is_some, length, slice_get, suc, take, true, zero, ℕ, ◌++◌, ◌∷◌, ◌≡◌}

-- ---- the entry

-- the cells that an entry records as written in the edge that it ends
abbrev pub writes_of : Entry → List ℕ
writes_of (entry.Sync kind object number value reads writes) = writes
writes_of (entry.End status rest reads writes) = writes
writes_of e = []

-- ---- the events of an internal edge, as replays give them

-- the events of these items in order; `inner` are those of a whole interval
abbrev pub events_among : (ℕ → List Event) → List Item → List Event
events_among inner [] = []
events_among inner (item.Own e ∷ ts) = e ∷ events_among inner ts
events_among inner (item.Nested m b values closed ∷ ts) = inner m ++ events_among inner ts

-- those of interval m and of the intervals inside it; these have larger numbers, so that no more than all stand in one
-- another
abbrev pub events_in : ℕ → Seen → ℕ → List Event
events_in zero x m = []
events_in (suc n) x m = events_among (events_in n x) (get_or x.items m [])

-- those of the first j items of interval k, after those before it in the intervals round it, the innermost first
abbrev pub events_to : Seen → ℕ → ℕ → List ℕ → List Event
events_to x k j [] = events_among (events_in (length x.items) x) (take j (get_or x.items k []))
events_to x k j (m ∷ ms) =
    events_to x m (place_of k (get_or x.items m [])) ms
    ++ events_among (events_in (length x.items) x) (take j (get_or x.items k []))

-- the events of the edge: of all those of its process before the place where it ends, those after the last
-- synchronization
abbrev pub events_of : List Seen → List Entry → EdgeId → List Event
events_of xs entries a =
    fold (λ (es : List Event) (e : Event). if is_some e.number then [] else es ++ e ∷ []) []
    (events_to (seen_at xs a.process) (end_interval entries a.edge) (end_item entries (seen_at xs a.process) a.edge)
    (get_or (seen_at xs a.process).rounds (end_interval entries a.edge) []))

-- ---- a write that is missing

-- the write of cell c that entry n of process q records
abbrev pub write_at : (q n c : ℕ) → Missing
write_at q n c = record { process = q; entry = n; cell = c }

-- the entry is there and ends an internal edge of its process, a synchronization or the end, the one with as many
-- synchronizations before it; its write set has the cell; and none of the events of that edge writes the cell
pub record IsMissingWrite (logs : Logs) (xs : List Seen) (m : Missing) : Type 0 where
  pub entry : Entry
  pub there : slice_get (get_or logs.lists m.process []) m.entry ≡ Some entry
  pub ends : ends_edge entry ≡ true
  pub recorded : has (writes_of entry) m.cell ≡ true
  pub unwritten : list_any (λ e. list_any (λ a. is_shared m.cell a.spot) e.writes)
      (events_of xs (get_or logs.lists m.process [])
      (edge m.process (syncs_before (get_or logs.lists m.process []) m.entry))) ≡ false

-- so it is with each write that a search misses
pub record AreMissingWrites (program : Program) (plan : Plan) (logs : Logs) (xs : List Seen) : Type 0 where
  pub origins : (p k j c : ℕ) (m : Missing) → (shared_origin program logs xs p k j c).found ≡ Err m
      → IsMissingWrite logs xs m
  pub last : (c : ℕ) (m : Missing) → (found_last program logs xs c).found ≡ Err m → IsMissingWrite logs xs m
  pub edges : (p k j : ℕ) (m : Missing) → (found_edges program plan logs xs p k j).found ≡ Some (Err m)
      → IsMissingWrite logs xs m

-- the index refuses none of these logs
abbrev pub AreIndexed : Program → Plan → Logs → Type 0
AreIndexed program plan logs = first_in_lists program plan 0 logs.lists ≡ None

-- in logs that the index accepts, whatever is seen of the processes
abbrev pub MissingWritesAreTold : Type 0
MissingWritesAreTold =
    (program : Program) (plan : Plan) (logs : Logs) (xs : List Seen)
    → AreIndexed program plan logs → AreMissingWrites program plan logs xs
