-- What one more item changes in a table.
use Rattle.std.specs.Prelude.{◌≡◌, ℕ, ◌+◌, nat_eq, Bool, true, false, not, ◌&&◌, ℤ, List, [], ◌∷◌, ◌++◌, Option, Some, None, is_some, if◌then◌else◌}
use Rattle.std.specs.List.{list_any}
use Rattle.ppd_ast.specs.declared.plan.BlockKind.{BlockKind}
use Rattle.ppd_ast.specs.declared.plan.BlockKind.TheVariants as block
use Rattle.ppd_ast.specs.declared.plan.Plan.{Plan}
use Rattle.ppd_ast.specs.declared.program.Program.{Program}
use Rattle.ppd_ast.specs.Lookups.{kind_of}
use Rattle.ppd_sem.specs.declared.event.Access.{Access}
use Rattle.ppd_sem.specs.declared.event.Event.{Event}
use Rattle.ppd_sem.specs.Blocks.{block_kind, postlog_cells}
use Rattle.ppd_sem.specs.Process.{into_of}
use Rattle.ppd_sem.specs.Runs.{returns}
use Rattle.ppd_model.specs.declared.flow.Item.{Item}
use Rattle.ppd_model.specs.declared.flow.Item.TheVariants as item
use Rattle.ppd_model.specs.FullTrace.{is_passed}
use Rattle.ppd_model.specs.NearIntervals.{is_in}
use Rattle.ppd_model.specs.Synchronizations.{is_number}
use Rattle.ppd_graph.specs.declared.leaf_call.LeafCall.{LeafCall}
use Rattle.ppd_graph.specs.declared.writer.Writer.{Writer}
use Rattle.ppd_graph.specs.declared.writer.Writer.TheVariants.{At, Of}
use Rattle.ppd_graph.specs.Locals.{begins_leaf, frame_in, is_local, leaf_after, receives}
use Rattle.ppd_flow_local_tables.specs.declared.build.Building.{Building}
use Rattle.ppd_flow_local_tables.specs.declared.point.Point.{Point}
use Rattle.ppd_flow_local_tables.specs.Kept.{AllRowsBefore, row_of}
use Rattle.ppd_flow_local_tables.specs.Rows.{noted}
use Rattle.ppd_flow_local_tables.specs.Tables.{start_point}

-- ---- the row of frame f and number k

-- with the test of item n
abbrev pub tests_by : ℕ → Event → ℕ → ℕ → List (ℕ × Bool) → List (ℕ × Bool)
tests_by n e f k xs =
    if nat_eq 0 f && nat_eq e.stmt k && not (is_some e.trap) then xs ++ (n, is_passed e.value) ∷ [] else xs

-- with what item n writes
abbrev pub writes_by : ℕ → List Access → ℕ → ℕ → List (ℕ × Writer) → List (ℕ × Writer)
writes_by n writes f k xs = if list_any (λ a. is_local f k a.spot) writes then xs ++ (n, At n) ∷ [] else xs

-- the cell that receives the value with which an event returns from the activation that goes on
abbrev pub received_by : Program → Event → Option LeafCall → Option ℕ
received_by program e None = None
received_by program e (Some call) =
    if not (is_some e.trap) && returns (kind_of program e.stmt) && is_some e.value then into_of
    (kind_of program call.stmt) else None

-- with what item n returns
abbrev pub return_by : Program → ℕ → Event → Option LeafCall → ℕ → ℕ → List (ℕ × Writer) → List (ℕ × Writer)
return_by program n e leaf f k xs = if receives program f k e leaf then noted n (At n) xs else xs

-- with the value of interval m, which is item n
abbrev pub value_by : Program → (n m call : ℕ) → List ℤ → ℕ → ℕ → List (ℕ × Writer) → List (ℕ × Writer)
value_by program n m call [] f k xs = xs
value_by program n m call (v ∷ vs) f k xs =
    if nat_eq f 0 && is_number (into_of (kind_of program call)) k then xs ++ (n, Of m) ∷ [] else xs

-- with loop m, which is item n, if it is of the frame with the cell among these
abbrev pub left_by : (n m frame : ℕ) → List ℕ → ℕ → ℕ → List (ℕ × ℕ) → List (ℕ × ℕ)
left_by n m frame cells f k xs = if nat_eq f frame && is_in k cells then xs ++ (n, m) ∷ [] else xs

-- ---- one more item

-- what is known of the activations after an event, which is item n
abbrev pub point_by : Program → Plan → ℕ → Event → Point → Point
point_by program plan n e x = record {
  leaf = leaf_after program plan n e x.leaf;
  begun = if begins_leaf program plan e then Some n else x.begun;
}

-- and after any item, which has number n
abbrev pub point_of : Program → Plan → ℕ → Item → Point → Point
point_of program plan n (item.Own e) x = point_by program plan n e x
point_of program plan n (item.Nested m b values closed) x = x

-- the statement of the last event
abbrev pub call_of : Item → ℕ → ℕ
call_of (item.Own e) call = e.stmt
call_of (item.Nested m b values closed) call = call

-- the row with the test of an item, which has number n
abbrev pub tests_of : ℕ → Item → ℕ → ℕ → List (ℕ × Bool) → List (ℕ × Bool)
tests_of n (item.Own e) f k xs = tests_by n e f k xs
tests_of n (item.Nested m b values closed) f k xs = xs

-- the row with the value of an interval of this kind
abbrev pub value_of : Program → (n m call : ℕ) → BlockKind → List ℤ → ℕ → ℕ → List (ℕ × Writer) → List (ℕ × Writer)
value_of program n m call (block.Loop l) values f k xs = xs
value_of program n m call kind values f k xs = value_by program n m call values f k xs

-- the row with an interval of this kind, a loop
abbrev pub left_of : (n m frame : ℕ) → BlockKind → List ℕ → ℕ → ℕ → List (ℕ × ℕ) → List (ℕ × ℕ)
left_of n m frame (block.Loop l) cells f k xs = left_by n m frame cells f k xs
left_of n m frame kind cells f k xs = xs

-- the row with what an item writes
abbrev pub writes_of : Program → Plan → ℕ → Point → ℕ → Item → ℕ → ℕ → List (ℕ × Writer) → List (ℕ × Writer)
writes_of program plan n x call (item.Own e) f k xs =
    return_by program n e x.leaf f k (writes_by n e.writes f k xs)
writes_of program plan n x call (item.Nested m b values false) f k xs = xs
writes_of program plan n x call (item.Nested m b values true) f k xs =
    value_of program n m call (block_kind plan b) values f k xs

-- the row with the loop that an item is
abbrev pub loops_of : Plan → ℕ → Point → Item → ℕ → ℕ → List (ℕ × ℕ) → List (ℕ × ℕ)
loops_of plan n x (item.Own e) f k xs = xs
loops_of plan n x (item.Nested m b values false) f k xs = xs
loops_of plan n x (item.Nested m b values true) f k xs =
    left_of n m (frame_in x.leaf) (block_kind plan b) (postlog_cells plan b) f k xs

-- the rows, and what is known, have changed by the item, which is the next one
pub record IsNoted (program : Program) (plan : Plan) (i : Item) (x y : Building) : Type 0 where
  pub tests : (f k : ℕ) → row_of y.table.tests f k ≡ tests_of x.next i f k (row_of x.table.tests f k)
  pub writes : (f k : ℕ)
      → row_of y.table.writes f k ≡ writes_of program plan x.next x.point x.call i f k (row_of x.table.writes f k)
  pub loops : (f k : ℕ) → row_of y.table.loops f k ≡ loops_of plan x.next x.point i f k (row_of x.table.loops f k)
  pub point : y.point ≡ point_of program plan x.next i x.point
  pub call : y.call ≡ call_of i x.call

-- the places are as before
pub record HasPlaces (x y : Building) : Type 0 where
  pub next : y.next ≡ x.next
  pub points : y.table.points.items ≡ x.table.points.items

-- all but the rows of writes is as before
pub record IsSameButWrites (x y : Building) : Type 0 where
  pub places : HasPlaces x y
  pub tests : (f k : ℕ) → row_of y.table.tests f k ≡ row_of x.table.tests f k
  pub loops : (f k : ℕ) → row_of y.table.loops f k ≡ row_of x.table.loops f k
  pub point : y.point ≡ x.point
  pub call : y.call ≡ x.call

-- the item is noted, and there is one more place
pub record IsStep (program : Program) (plan : Plan) (i : Item) (x y : Building) : Type 0 where
  pub noted : IsNoted program plan i x y
  pub next : y.next ≡ x.next + 1
  pub points : y.table.points.items ≡ x.table.points.items ++ y.point ∷ []

-- no value is of the next item yet
pub record IsReady (x : Building) : Type 0 where
  pub tests : AllRowsBefore x.next x.table.tests
  pub writes : AllRowsBefore x.next x.table.writes
  pub loops : AllRowsBefore x.next x.table.loops

-- there is no item yet
pub record IsNew (x : Building) : Type 0 where
  pub points : x.table.points.items ≡ start_point ∷ []
  pub tests : (f k : ℕ) → row_of x.table.tests f k ≡ []
  pub writes : (f k : ℕ) → row_of x.table.writes f k ≡ []
  pub loops : (f k : ℕ) → row_of x.table.loops f k ≡ []
  pub next : x.next ≡ 0
  pub point : x.point ≡ start_point
  pub call : x.call ≡ 0
