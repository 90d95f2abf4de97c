-- The table of a process's intervals: each with the entries that are its pieces, by number.
use Rattle.std.specs.Prelude.{ℕ, ◌+◌, ◌<◌, ◌^◌, ⊤, ℤ, Bool, true, false, List, [], ◌∷◌, ◌++◌, drop, fold, length, map, slice_get, Option, Some, None, if◌then◌else◌}
use Rattle.ppd_ast.specs.declared.plan.Plan.{Plan}
use Rattle.ppd_model.specs.declared.entry.Entry.{Entry}
use Rattle.ppd_model.specs.declared.entry.Entry.TheVariants as entry
use Rattle.ppd_model.specs.IntervalLogs.{Extent, IntervalLog}
use Rattle.ppd_model.specs.Pieces.{Piece, unit, sync, nested, unfinished, postlog, finish}
use Rattle.ppd_sem.specs.Blocks.{block_kind, is_function}
use Rattle.ppd_model.specs.World.{change}
use Rattle.ppd_index.specs.declared.row.Mark.{Mark}
use Rattle.ppd_index.specs.declared.row.Mark.TheVariants as mark
use Rattle.ppd_index.specs.declared.row.Row.{Row}
use Rattle.ppd_index.specs.declared.standing.Standing.{Standing}
use Rattle.ppd_index.specs.declared.table.Table.{Table}

-- ---- what a row stands for

-- the values of an entry
abbrev pub values_in : Entry → List ℤ
values_in (entry.Prelog b values) = values
values_in (entry.Unit u values) = values
values_in (entry.Sync kind object number value reads writes) = []
values_in (entry.Postlog b values) = values
values_in (entry.End status rest reads writes) = []

abbrev pub values_there : Option Entry → List ℤ
values_there None = []
values_there (Some e) = values_in e

-- the values of entry n
abbrev pub values_at : List Entry → ℕ → List ℤ
values_at entries n = values_there (slice_get entries n)

-- the piece that an interval's own entry is
abbrev pub own_piece : Entry → Piece
own_piece (entry.Prelog b values) = postlog values
own_piece (entry.Unit u values) = unit u values
own_piece (entry.Sync kind object number value reads writes) = sync kind object number value
own_piece (entry.Postlog b values) = postlog values
own_piece (entry.End status rest reads writes) = finish status rest

abbrev pub piece_there : Option Entry → Piece
piece_there None = postlog []
piece_there (Some e) = own_piece e

-- the piece that a mark stands for among these entries, with the number of its entry
abbrev pub piece_at : List Entry → Mark → ℕ × Piece
piece_at entries (mark.Own n) = (n, piece_there (slice_get entries n))
piece_at entries (mark.Left k b first last) = (first, nested k b (values_at entries last))
piece_at entries (mark.Open k b first) = (first, unfinished k b)

-- the number of a mark's entry
abbrev pub number_of : Mark → ℕ
number_of (mark.Own n) = n
number_of (mark.Left k b first last) = first
number_of (mark.Open k b first) = first

-- the log of a row's interval among these entries
abbrev pub log_of : List Entry → Row → IntervalLog
log_of entries r =
    record {
      block = r.block;
      values = values_at entries r.first;
      depth = r.depth;
      pieces = map (piece_at entries) r.marks;
    }

-- where a row's interval stands
abbrev pub extent_of : Row → Extent
extent_of r = record { block = r.block; parent = r.parent; prelog = r.first; last = r.last; closed = r.closed }

-- ---- one entry

-- the rows so far, the numbers of those whose intervals run with the innermost first, and the number of
-- the next entry
pub record Tabled : Type 0 where
  pub rows : List Row
  pub running : List ℕ
  pub entry : ℕ

abbrev pub block_in : Option Row → ℕ
block_in None = 0
block_in (Some r) = r.block

abbrev pub first_in : Option Row → ℕ
first_in None = 0
first_in (Some r) = r.first

abbrev pub depth_in : Option Row → ℕ
depth_in None = 0
depth_in (Some r) = r.depth

-- one more mark
abbrev pub with_mark : Mark → Row → Row
with_mark m r = record r { marks = r.marks ++ m ∷ [] }

-- the interval is left by entry n
abbrev pub closed_by : ℕ → Row → Row
closed_by n r = record r { last = Some n; closed = true }

-- the process came to its end inside the interval by entry n
abbrev pub ended_by : ℕ → Row → Row
ended_by n r = record r { last = Some n }

-- a mark for interval k, if there is one
abbrev pub add_mark_to : Mark → Option ℕ → List Row → List Row
add_mark_to m None rows = rows
add_mark_to m (Some k) rows = change (with_mark m) k rows

-- a mark for the innermost of these intervals
abbrev pub add_mark : Mark → List ℕ → List Row → List Row
add_mark m running rows = add_mark_to m (slice_get running 0) rows

-- how many intervals of functions are among interval k and those round it
abbrev pub depth_there : Option ℕ → List Row → ℕ
depth_there None rows = 0
depth_there (Some k) rows = depth_in (slice_get rows k)

-- how many intervals of functions run
abbrev pub depth_at : List ℕ → List Row → ℕ
depth_at running rows = depth_there (slice_get running 0) rows

-- the block of interval k
abbrev pub block_there : Option ℕ → List Row → Option ℕ
block_there None rows = None
block_there (Some k) rows = Some (block_in (slice_get rows k))

-- an interval of block b, which entry n begins
abbrev pub new_row : Plan → ℕ → ℕ → List ℕ → List Row → Row
new_row plan n b running rows = record {
  block = b;
  parent = slice_get running 0;
  first = n;
  last = None;
  closed = false;
  depth = depth_at running rows + (if is_function (block_kind plan b) then 1 else 0);
  marks = [];
}

-- interval k inside another is left by entry n, its last piece; it is a piece of the one round it
abbrev pub left_one : ℕ → ℕ → Option ℕ → List Row → List Row
left_one n k outer rows =
    let r = slice_get rows k in
    add_mark_to (mark.Left k (block_in r) (first_in r) n) outer
    (change (closed_by n) k (change (with_mark (mark.Own n)) k rows))

-- the innermost interval is left by entry n
abbrev pub left_rows : ℕ → List ℕ → List Row → List Row
left_rows n [] rows = rows
left_rows n (k ∷ ks) rows = left_one n k (slice_get ks 0) rows

-- entry n is the end inside interval k, which is a piece of the one round it
abbrev pub open_one : ℕ → ℕ → Option ℕ → List Row → List Row
open_one n k outer rows =
    let r = slice_get rows k in
    add_mark_to (mark.Open k (block_in r) (first_in r)) outer (change (ended_by n) k rows)

-- entry n is the end inside these intervals
abbrev pub open_rows : ℕ → List ℕ → List Row → List Row
open_rows n [] rows = rows
open_rows n (k ∷ ks) rows = open_rows n ks (open_one n k (slice_get ks 0) rows)

-- what an entry adds
abbrev pub table_by : Plan → Tabled → Entry → Tabled
table_by plan t (entry.Prelog b values) =
    record t { rows = t.rows ++ new_row plan t.entry b t.running t.rows ∷ []; running = length t.rows ∷ t.running }
table_by plan t (entry.Unit u values) = record t { rows = add_mark (mark.Own t.entry) t.running t.rows }
table_by plan t (entry.Sync kind object number value reads writes) =
    record t { rows = add_mark (mark.Own t.entry) t.running t.rows }
table_by plan t (entry.Postlog b values) =
    record t { rows = left_rows t.entry t.running t.rows; running = drop 1 t.running }
table_by plan t (entry.End status rest reads writes) =
    record t { rows = open_rows t.entry t.running (add_mark (mark.Own t.entry) t.running t.rows) }

-- one more entry
abbrev pub table_step : Plan → Tabled → Entry → Tabled
table_step plan t e = record (table_by plan t e) { entry = t.entry + 1 }

-- before the first entry
abbrev pub begun_table : Tabled
begun_table = record { rows = []; running = []; entry = 0 }

-- the rows of a process's entries
abbrev pub rows_of : Plan → List Entry → List Row
rows_of plan entries = (fold (table_step plan) begun_table entries).rows

-- ---- in a table

-- the table before entry n
abbrev pub tabled : ℕ → Table → Tabled
tabled n t = record { rows = t.rows.items; running = t.running; entry = n }

-- where entry n stands
abbrev pub standing_in : Bool → Tabled → Standing
standing_in ended t = record {
  entry = t.entry;
  ended = ended;
  innermost = block_there (slice_get t.running 0) t.rows;
  functions = depth_at t.running t.rows;
}

-- one more interval of this block makes a depth of 8 bits
abbrev pub HasRoomFor : Plan → ℕ → ℕ → Type 0
HasRoomFor plan functions b = functions + (if is_function (block_kind plan b) then 1 else 0) < 2 ^ 8

-- so it is with the interval that the entry begins, if it begins one
abbrev pub HasRoom : Plan → ℕ → Entry → Type 0
HasRoom plan functions (entry.Prelog b values) = HasRoomFor plan functions b
HasRoom plan functions e = ⊤
