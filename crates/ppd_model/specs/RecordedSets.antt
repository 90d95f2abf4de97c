-- What logs record of a run: its synchronizations, and the shared cells that each internal edge accesses.
use Rattle.ppd_model.specs.Setting.{Setting}
use Rattle.std.specs.Bool.{beq}
use Rattle.std.specs.Prelude.{◌≡◌, ℕ, ◌<◌, nat_eq, Bool, true, false, ◌&&◌, List, [], ◌∷◌, ◌++◌, map, filter, filter_map, fold, length, slice_get, Option, Some, None, get_or}
use Rattle.std.specs.List.{list_any, range_with_len}
use Rattle.std.specs.List.Sorted.{IsStrictlyIncreasing}
use Rattle.ppd_ast.specs.Valid.{IsValid}
use Rattle.ppd_ast.specs.declared.status.Status.{Status}
use Rattle.ppd_ast.specs.Members.{with_cell}
use Rattle.ppd_model.specs.declared.entry.Entry.{Entry}
use Rattle.ppd_model.specs.declared.entry.Entry.TheVariants as entry
use Rattle.ppd_model.specs.declared.entry.Logs.{Logs}
use Rattle.ppd_model.specs.Entries.{is_end}
use Rattle.ppd_model.specs.Story.{Story, story}
use Rattle.ppd_model.specs.Synchronizations.{Sync, sync_of}
use Rattle.ppd_model.specs.Record.{SharedAccess, accesses, sync_record}
use Rattle.ppd_model.specs.Numbers.{sync}
use Rattle.ppd_model.specs.Races.{has_access}
use Rattle.ppd_model.specs.Logs.{closed_logs, kept_logs}

-- ---- synchronizations

-- the synchronization that an entry is, if it is one
abbrev pub sync_in : Entry → Option Sync
sync_in (entry.Sync kind object number value reads writes) = Some (sync kind object number)
sync_in e = None

-- the synchronizations of each process in order
abbrev pub record_in : Logs → List (List Sync)
record_in logs = map (filter_map sync_in) logs.lists

-- the synchronizations that the logs of a schedule tell, closed or not, are its record
pub record RecordsSynchronizations (setting : Setting) (h : List ℕ) : Type 0 where
  pub closed : record_in (closed_logs setting h) ≡ sync_record setting h
  pub kept : record_in (kept_logs setting h) ≡ sync_record setting h

-- so it is with each schedule
abbrev pub LogsRecordSynchronizations : Type 0
LogsRecordSynchronizations =
    (setting : Setting) (h : List ℕ) → RecordsSynchronizations setting h

-- ---- the cells of an internal edge

-- these cells rising, each once
abbrev pub rising : List ℕ → List ℕ
rising cells = fold (λ set c. with_cell c set) [] cells

-- the cells of the accesses of one edge that are reads, or that are writes
abbrev pub cells_of : List SharedAccess → ℕ → Bool → List ℕ
cells_of xs i writes = rising (map (λ a. a.cell) (filter (λ a. nat_eq a.edge i && beq a.writes writes) xs))

-- the cells that process p reads, or writes, in its edge i
abbrev pub set_in : Story → ℕ → ℕ → Bool → List ℕ
set_in s p i writes = cells_of (accesses s p) i writes

-- both
abbrev pub sets_in : Story → ℕ → ℕ → List ℕ × List ℕ
sets_in s p i = (set_in s p i false, set_in s p i true)

-- rising, they are the cells that the edge has an access of
pub record AreCellsOf (s : Story) (p i : ℕ) (writes : Bool) : Type 0 where
  pub rises : IsStrictlyIncreasing (set_in s p i writes)
  pub are : (c : ℕ) → list_any (λ d. nat_eq d c) (set_in s p i writes) ≡ has_access s p i c writes

-- so it is in each edge
abbrev pub CellsAreOfAccesses : Type 0
CellsAreOfAccesses = (s : Story) (p i : ℕ) (writes : Bool) → AreCellsOf s p i writes

-- in a valid program each of them is one of its shared cells
abbrev pub AccessesAreOfCells : Type 0
AccessesAreOfCells =
    (setting : Setting) (h : List ℕ) (p m : ℕ) (a : SharedAccess) → IsValid setting.program
    → slice_get (accesses (story setting h) p) m ≡ Some a → a.cell < length setting.program.starts

-- ---- recorded sets

-- the cells read and the cells written that the entry of a synchronization records
abbrev pub sets_at_sync : Entry → Option (List ℕ × List ℕ)
sets_at_sync (entry.Sync kind object number value reads writes) = Some (reads, writes)
sets_at_sync e = None

-- the last edge of process p: as many as it did synchronizations
abbrev pub last_edge : Story → ℕ → ℕ
last_edge s p = length (filter_map sync_of (get_or s.steps p []))

-- the synchronizations have the sets of the edges that they end, in order, and the only End, which
-- stands last, those of the last edge
pub record RecordsAccesses (s : Story) (p : ℕ) (entries : List Entry) : Type 0 where
  pub before : List Entry
  pub status : Status
  pub rest : ℕ
  pub entries_are : entries ≡ before
      ++ entry.End status rest (set_in s p (last_edge s p) false) (set_in s p (last_edge s p) true) ∷ []
  pub syncs_are : filter_map sets_at_sync before ≡ map (sets_in s p) (range_with_len 0 (last_edge s p))
  pub no_end : list_any is_end before ≡ false

-- so it is with each log of a schedule of a valid program
abbrev pub LogsRecordAccesses : Type 0
LogsRecordAccesses =
    (setting : Setting) (h : List ℕ) (p : ℕ) (entries : List Entry) → IsValid setting.program
    → slice_get (closed_logs setting h).lists p ≡ Some entries
    → RecordsAccesses (story setting h) p entries
