-- Logs that are cut after the last wanted edge of each process.
use Rattle.std.specs.Prelude.{ℕ, ◌+◌, Bool, true, false, List, [], ◌∷◌, ◌++◌, map, slice_get, take, Option, Some, None, if◌then◌else◌, is_some}
use Rattle.std.specs.List.{enumerate_from}
use Rattle.std.specs.Option.{option_map_or}
use Rattle.ppd_ast.specs.declared.status.Status.TheVariants as status
use Rattle.ppd_model.specs.declared.entry.Entry.{Entry}
use Rattle.ppd_model.specs.declared.entry.Entry.TheVariants as entry
use Rattle.ppd_model.specs.declared.entry.Logs.{Logs}
use Rattle.ppd_graph.specs.Ends.{ending}
use Rattle.ppd_model.specs.RecordedSets.{sync_in}

-- ---- one log

-- the end of a log that is cut
abbrev pub stop : Entry
stop = entry.End status.Budget 0 [] []

abbrev pub is_unit : Option Entry → Bool
is_unit (Some (entry.Unit u values)) = true
is_unit e = false

-- the first n entries, with a unit that follows, and the end
abbrev pub cut_at : List Entry → ℕ → List Entry
cut_at entries n = take (if is_unit (slice_get entries n) then n + 1 else n) entries ++ stop ∷ []

-- the log of a process whose last wanted edge is this one: through the synchronization that ends it, whole where none
-- does, and the start entries alone where no edge is wanted
abbrev pub cut : Option ℕ → List Entry → List Entry
cut None entries = cut_at entries 1
cut (Some i) entries =
    if option_map_or (λ e. is_some (sync_in e)) (slice_get entries (ending i entries)) false
    then cut_at entries (ending i entries + 1)
    else entries

-- ---- all logs

-- logs without the edges that are not wanted: the log of each process is cut after the last that is wanted of it
abbrev pub cut_logs : (ℕ → Option ℕ) → Logs → Logs
cut_logs last logs = record { lists = map (λ e. cut (last e.0) e.1) (enumerate_from 0 logs.lists) }
