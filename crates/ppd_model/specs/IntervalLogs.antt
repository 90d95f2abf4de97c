-- The intervals of a process's log: where each stands, and its own log.
use Rattle.std.specs.Prelude.{ℕ, ◌+◌, ℤ, Bool, true, false, List, [], ◌∷◌, ◌++◌, drop, fold, length, get_or, slice_get, Option, Some, None, if◌then◌else◌, option_map}
use Rattle.ppd_sem.specs.Blocks.{block_kind, is_function}
use Rattle.ppd_sem.specs.Plan.{Plan}
use Rattle.ppd_model.specs.declared.entry.Entry.{Entry}
use Rattle.ppd_model.specs.declared.entry.Entry.TheVariants as entry
use Rattle.ppd_model.specs.Changed.{change}
use Rattle.ppd_model.specs.Pieces.{Piece, unit, sync, nested, unfinished, postlog, finish}

-- where an interval stands: its block, the interval directly round it, the numbers of the entries that are its prelog
-- and its postlog, or the last end inside it, and whether it is left
pub record Extent : Type 0 where
  pub block : ℕ
  pub parent : Option ℕ
  pub prelog : ℕ
  pub last : Option ℕ
  pub closed : Bool

-- an interval of a log: where it stands, its block and those of the intervals round it, the values of its prelog, and
-- its pieces, each with the number of its entry, of an interval inside it the number of that one's prelog
pub record LoggedInterval : Type 0 where
  pub extent : Extent
  pub blocks : List ℕ
  pub values : List ℤ
  pub pieces : List (ℕ × Piece)

-- the intervals so far, the numbers of those that are running with the innermost first, and the
-- number of the next entry
pub record Indexing : Type 0 where
  pub intervals : List LoggedInterval
  pub running : List ℕ
  pub entry : ℕ

-- ---- intervals

-- interval k, and one of nothing where it is not there
abbrev pub interval_at : List LoggedInterval → ℕ → LoggedInterval
interval_at intervals k =
    get_or intervals k (record {
      extent = record { block = 0; parent = None; prelog = 0; last = None; closed = false };
      blocks = [];
      values = [];
      pieces = [];
    })

-- the first of the running intervals, if one runs, has one more piece, of the entry of this number
abbrev pub add_piece : ℕ → Piece → List ℕ → List LoggedInterval → List LoggedInterval
add_piece n piece [] intervals = intervals
add_piece n piece (k ∷ ks) intervals =
    change (λ (i : LoggedInterval). record i { pieces = i.pieces ++ (n, piece) ∷ [] }) k intervals

-- the blocks of the running intervals, the innermost first
abbrev pub blocks_of : List ℕ → List LoggedInterval → List ℕ
blocks_of [] intervals = []
blocks_of (k ∷ ks) intervals = (interval_at intervals k).blocks

-- ---- one entry

-- the innermost interval is left by entry n: its postlog is its last piece, and it is a piece of the one round it
abbrev pub left_interval : ℕ → List ℤ → List ℕ → List LoggedInterval → List LoggedInterval
left_interval n values [] intervals = intervals
left_interval n values (k ∷ ks) intervals =
    let i = interval_at intervals k in
    let left : LoggedInterval → LoggedInterval = λ j. record j {
      extent = record j.extent { last = Some n; closed = true };
      pieces = j.pieces ++ (n, postlog values) ∷ [];
    } in
    add_piece i.extent.prelog (nested k i.extent.block values) ks (change left k intervals)

-- entry n is an end inside each running interval, which is an unfinished piece of the one round it
abbrev pub left_open : ℕ → List ℕ → List LoggedInterval → List LoggedInterval
left_open n [] intervals = intervals
left_open n (k ∷ ks) intervals =
    let i = interval_at intervals k in
    let ended : LoggedInterval → LoggedInterval = λ j. record j { extent = record j.extent { last = Some n } } in
    left_open n ks (add_piece i.extent.prelog (unfinished k i.extent.block) ks (change ended k intervals))

-- one more entry: a prelog begins an interval inside the running ones, a postlog leaves the innermost one, an end
-- stands inside all that are running, and each entry but a prelog is a piece of the innermost one
abbrev pub index_step : Indexing → Entry → Indexing
index_step x e =
    let with_own : Piece → List LoggedInterval = λ piece. add_piece x.entry piece x.running x.intervals in
    let after : Indexing = elim e [
      | entry.Prelog b values ↦ record x {
        intervals = x.intervals ++ (record {
          extent = record { block = b; parent = slice_get x.running 0; prelog = x.entry; last = None; closed = false };
          blocks = b ∷ blocks_of x.running x.intervals;
          values = values;
          pieces = [];
        }) ∷ [];
        running = length x.intervals ∷ x.running;
      }
      | entry.Unit u values ↦ record x { intervals = with_own (unit u values) }
      | entry.Sync kind object number value reads writes ↦
          record x { intervals = with_own (sync kind object number value) }
      | entry.Postlog b values ↦
          record x { intervals = left_interval x.entry values x.running x.intervals; running = drop 1 x.running }
      | entry.End status rest reads writes ↦
          record x { intervals = left_open x.entry x.running (with_own (finish status rest)) }
    ] in
    record after { entry = x.entry + 1 }

-- ---- all entries of a process

-- before the first entry
abbrev pub begun_indexing : Indexing
begun_indexing = record { intervals = []; running = []; entry = 0 }

-- the intervals of a process in the order of their prelogs
abbrev pub indexed : List Entry → List LoggedInterval
indexed entries = (fold index_step begun_indexing entries).intervals

-- ---- the log of an interval

-- what is known of an interval without any other: its block, the values of its prelog, how many
-- intervals of functions are among it and those round it, and its pieces, each with the number of
-- its entry, of an interval inside it the number of that one's prelog
pub record IntervalLog : Type 0 where
  pub block : ℕ
  pub values : List ℤ
  pub depth : ℕ
  pub pieces : List (ℕ × Piece)

-- how many of these blocks are functions
abbrev pub functions_in : Plan → List ℕ → ℕ
functions_in plan [] = 0
functions_in plan (b ∷ bs) = (if is_function (block_kind plan b) then 1 else 0) + functions_in plan bs

-- the log of an interval
abbrev pub log_by : Plan → LoggedInterval → IntervalLog
log_by plan i = record {
  block = i.extent.block;
  values = i.values;
  depth = functions_in plan i.blocks;
  pieces = i.pieces;
}

-- the log of interval k
abbrev pub interval_log : Plan → List Entry → ℕ → Option IntervalLog
interval_log plan entries k = option_map (log_by plan) (slice_get (indexed entries) k)
