-- What a table of an interval's items says of each place.
use Rattle.std.specs.Prelude.{◌≡◌, ℕ, ◌+◌, ◌≤◌, nat_eq, Bool, List, get_or, length, map, reverse, take, Option, Some, None, option_map, if◌then◌else◌}
use Rattle.ppd_ast.specs.declared.plan.Plan.{Plan}
use Rattle.ppd_ast.specs.declared.program.Program.{Program}
use Rattle.ppd_model.specs.declared.flow.Item.{Item}
use Rattle.ppd_graph.specs.declared.last_test.LastTest.{LastTest}
use Rattle.ppd_graph.specs.declared.writer.Writer.{Writer}
use Rattle.ppd_graph.specs.declared.writer.Writer.TheVariants.{Before, Fresh}
use Rattle.ppd_graph.specs.Control.{last_test}
use Rattle.ppd_graph.specs.Locals.{Scan, leaf_at, scan}
use Rattle.ppd_flow_local_tables.specs.declared.point.Point.{Point}
use Rattle.ppd_flow_local_tables.specs.declared.table.LastWrite.{LastWrite}
use Rattle.ppd_flow_local_tables.specs.declared.table.LocalTable.{LocalTable}
use Rattle.ppd_flow_local_tables.specs.Kept.{row_of}
use Rattle.ppd_flow_local_tables.specs.Rows.{entries_between, last_of}

-- ---- activations

-- before the first item
abbrev pub start_point : Point
start_point = record { leaf = None; begun = None }

abbrev pub point_at : LocalTable → ℕ → Point
point_at t p = get_or t.points.items p start_point

-- the item from which the frame's activation goes on, if it began among the items
abbrev pub begun_in : ℕ → Point → Option ℕ
begun_in frame x = if nat_eq frame 1 then x.begun else None

-- the place from which its tests are its own: the call that begins it is none
abbrev pub after_of : Option ℕ → ℕ
after_of None = 0
after_of (Some i) = i + 1

-- the place from which its writes are its own: what the call that begins it writes is
abbrev pub from_of : Option ℕ → ℕ
from_of None = 0
from_of (Some i) = i

-- ---- tests

-- the latest before place p, where these are the statement's
abbrev pub test_in : Option ℕ → ℕ → List (ℕ × Bool) → Option LastTest
test_in begun p tests =
    option_map (λ x. record { item = x.0; passed = x.1 }) (last_of (entries_between (after_of begun) p tests))

-- ---- writes

abbrev pub writer_of : Option (ℕ × Writer) → Option ℕ → Writer
writer_of (Some w) begun = w.1
writer_of None None = Before
writer_of None (Some i) = Fresh

-- the place from which loops may have written the cell after its last write
abbrev pub since : Option (ℕ × Writer) → Option ℕ → ℕ
since (Some w) begun = w.0
since None begun = from_of begun

-- a cell's last write, and the loops since, the last first
pub record Last : Type 0 where
  pub writer : Writer
  pub loops : List ℕ

-- before place p, where these are the cell's writes and loops
abbrev pub last_in : Option ℕ → ℕ → List (ℕ × Writer) → List (ℕ × ℕ) → Last
last_in begun p writes loops =
    let w = last_of (entries_between (from_of begun) p writes) in
    record {
      writer = writer_of w begun;
      loops = reverse (map (λ x. x.1) (entries_between (since w begun) p loops));
    }

-- as a scan has it
abbrev pub last_by : Scan → Last
last_by s = record { writer = s.writer; loops = s.loops }

-- ---- the whole

-- the table says of each place what the items before it give
pub record IsTableOf (program : Program) (plan : Plan) (items : List Item) (t : LocalTable) : Type 0 where
  pub count : length t.points.items ≡ length items + 1
  pub leaf : (p : ℕ) → p ≤ length items → (point_at t p).leaf ≡ leaf_at program plan (take p items)
  pub tests : (f s p : ℕ) → p ≤ length items
      → test_in (begun_in f (point_at t p)) p (row_of t.tests 0 s) ≡ last_test program plan f s (take p items)
  pub writes : (f c p : ℕ) → p ≤ length items
      → last_in (begun_in f (point_at t p)) p (row_of t.writes f c) (row_of t.loops f c)
      ≡ last_by (scan program plan f c (take p items))

-- the writer, and the loops since, as a scan of the items finds them
pub record IsLastWrite (s : Scan) (w : LastWrite) : Type 0 where
  pub writer : w.writer ≡ s.writer
  pub loops : reverse w.loops.now ≡ s.loops
