-- What an index is, and what it answers.
use Rattle.std.specs.Prelude.{◌≡◌, ℕ, List, [], get_or, map, slice_get, unwrap_or, option_map, Option, Some}
use Rattle.ppd_ast.specs.declared.plan.Plan.{Plan}
use Rattle.ppd_model.specs.declared.entry.Entry.{Entry}
use Rattle.ppd_model.specs.declared.entry.Logs.{Logs}
use Rattle.ppd_model.specs.IntervalLogs.{IntervalLog, indexed, interval_log, log_by}
use Rattle.ppd_model.specs.Pieces.{Piece}
use Rattle.ppd_model.specs.Bounds.{AreEach}
use Rattle.ppd_model.specs.Extents.{extents}
use Rattle.ppd_index.specs.declared.interval.Interval.{Interval}
use Rattle.ppd_index.specs.declared.row.Row.{Row}
use Rattle.ppd_index.specs.Tables.{extent_of, log_of}

-- these rows are the intervals of these entries: they go from their prelogs to the postlogs that match,
-- and their logs are those of the definition
pub record AreIntervals (plan : Plan) (rows : List Row) (entries : List Entry) : Type 0 where
  pub extents_are : map extent_of rows ≡ extents entries
  pub logs_are : map (log_of entries) rows ≡ map (log_by plan) (indexed entries)

-- so it is with each process
abbrev pub IsIndexOf : Plan → Logs → List (List Row) → Type 0
IsIndexOf plan logs tables = AreEach (AreIntervals plan) tables logs.lists

-- the rows of process p, and none past the processes
abbrev pub rows_at : List (List Row) → ℕ → List Row
rows_at tables p = get_or tables p []

abbrev pub interval_of : Row → Interval
interval_of r =
    record {
      block = r.block;
      parent = r.parent;
      first = r.first;
      last = unwrap_or r.last 0;
      closed = r.closed;
      depth = r.depth;
    }

-- this log is that of interval k of process p, wherever the index is that of the logs
abbrev pub IsLogOf : Logs → List (List Row) → ℕ → ℕ → IntervalLog → Type 0
IsLogOf logs tables p k log =
    (plan : Plan) → IsIndexOf plan logs tables → interval_log plan (get_or logs.lists p []) k ≡ Some log

-- the number of piece n's entry, and the piece
abbrev pub entry_of : IntervalLog → ℕ → Option ℕ
entry_of log n = option_map (λ x. x.0) (slice_get log.pieces n)

abbrev pub piece_in : IntervalLog → ℕ → Option Piece
piece_in log n = option_map (λ x. x.1) (slice_get log.pieces n)
