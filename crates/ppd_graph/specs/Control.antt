-- The control parent of a statement at a place in an interval, with the intervals that are replayed to find it.
-- The items of the interval itself are there; no list of replays names it.
use Rattle.ppd_ast.specs.Lookups.{kind_of}
use Rattle.ppd_ast.specs.declared.plan.BlockKind.{BlockKind}
use Rattle.ppd_ast.specs.declared.plan.BlockKind.TheVariants as block
use Rattle.ppd_ast.specs.declared.plan.Plan.{Plan}
use Rattle.ppd_ast.specs.declared.program.Kind.{Kind}
use Rattle.ppd_ast.specs.declared.program.Kind.TheVariants as kind
use Rattle.ppd_ast.specs.declared.program.Program.{Program}
use Rattle.ppd_graph.specs.Locals.{begins_leaf, frame_in, leaf_at}
use Rattle.ppd_graph.specs.Looked.{Looked, after_replay, known, look_or}
use Rattle.ppd_graph.specs.Seen.{Seen, call_of, kind_at, outer_of, outer_place}
use Rattle.ppd_graph.specs.declared.last_test.LastTest.{LastTest}
use Rattle.ppd_graph.specs.declared.leaf_call.LeafCall.{LeafCall}
use Rattle.ppd_model.specs.FullTrace.{is_passed}
use Rattle.ppd_model.specs.declared.flow.Item.{Item}
use Rattle.ppd_model.specs.declared.flow.Item.TheVariants as item
use Rattle.ppd_model.specs.declared.flow.Origin.{Origin}
use Rattle.ppd_model.specs.declared.flow.Origin.TheVariants as origin
use Rattle.ppd_sem.specs.declared.event.Event.{Event}
use Rattle.std.specs.Option.{option_or}
use Rattle.std.specs.Prelude.{List, None, Option, Some, [], fold, get_or, if◌then◌else◌, is_some, nat_eq, not, option_and_then, option_map, slice_get, take, ℕ, ◌&&◌, ◌+◌}

-- ---- the latest test among the first items of an interval

-- the number of the next item, and the statement's latest test in the activation
pub record Tests : Type 0 where
  pub next : ℕ
  pub found : Option LastTest

-- the latest test of statement s through this event: none yet where its activation begins
abbrev pub test_event : Program → Plan → ℕ → ℕ → Event → Tests → Option LastTest
test_event program plan frame s e t =
    if begins_leaf program plan e && nat_eq frame 1 then None
    else if nat_eq e.stmt s && not (is_some e.trap) then Some (record { item = t.next; passed = is_passed e.value })
    else t.found

-- one more item
abbrev pub test_item : Program → Plan → ℕ → ℕ → Tests → Item → Tests
test_item program plan frame s t (item.Own e) =
    record { next = t.next + 1; found = test_event program plan frame s e t }
test_item program plan frame s t (item.Nested m b values closed) = record t { next = t.next + 1 }

-- before the first item
abbrev pub begun_tests : Tests
begun_tests = record { next = 0; found = None }

-- the latest test of statement s in the activation of this frame among these items
abbrev pub last_test : Program → Plan → ℕ → ℕ → List Item → Option LastTest
last_test program plan frame s items = (fold (test_item program plan frame s) begun_tests items).found

-- ---- within an interval

-- the previous test of a loop run that goes on
abbrev pub test_of_run : ℕ → ℕ → Kind → Option LastTest → Option Origin
test_of_run p k (kind.While e body) (Some t) = if t.passed then Some (origin.Item p k t.item) else None
test_of_run p k kind t = None

-- the latest test of the statement in which another one directly stands
abbrev pub test_round : Program → Plan → ℕ → ℕ → ℕ → List Item → Option ℕ → Option Origin
test_round program plan p k frame items None = None
test_round program plan p k frame items (Some s) =
    option_map (λ t. origin.Item p k t.item) (last_test program plan frame s items)

-- the call of an activation without an interval of its own
abbrev pub leaf_call_at : ℕ → ℕ → Option LeafCall → Option Origin
leaf_call_at p k leaf = option_map (λ call. origin.Item p k call.item) leaf

-- the parent of statement s after these items of interval k
abbrev pub control_among : Program → Plan → ℕ → ℕ → ℕ → List Item → Option LeafCall → Option Origin
control_among program plan p k s items leaf =
    option_or (test_of_run p k (kind_of program s) (last_test program plan (frame_in leaf) s items))
    (option_or (test_round program plan p k (frame_in leaf) items
    (option_and_then (λ x. x.parent) (slice_get program.stmts s)))
    (leaf_call_at p k leaf))

-- the parent of statement s in interval k before place j
abbrev pub control_in : Program → Plan → Seen → ℕ → ℕ → ℕ → ℕ → Option Origin
control_in program plan x p k j s =
    let items = take j (get_or x.items k []) in
    control_among program plan p k s items (leaf_at program plan items)

-- ---- outside it

-- the call that began interval k, one of a function; else the process
abbrev pub call_or_entry : Seen → ℕ → ℕ → BlockKind → Looked ℕ Origin
call_or_entry x p k (block.Function f) = call_of x p k
call_or_entry x p k kind = known origin.Entry

-- the parent of statement s in interval k before place j, or what began the interval; no loop is round a
-- loop of the same activation
abbrev pub control_outside : Program → Plan → Seen → ℕ → ℕ → ℕ → ℕ → Looked ℕ Origin
control_outside program plan x p k j s =
    look_or (known (control_in program plan x p k j s)) (call_or_entry x p k (kind_at plan x k))

-- what let interval k run: for a loop what let its first test run
abbrev pub control_above : Program → Plan → Seen → ℕ → ℕ → BlockKind → Looked ℕ Origin
control_above program plan x p k (block.Loop l) =
    after_replay (outer_of x k) (control_outside program plan x p (outer_of x k) (outer_place x k) l)
control_above program plan x p k kind = call_or_entry x p k kind

-- the control parent of statement s at place j of interval k of process p
abbrev pub control_origin : Program → Plan → Seen → ℕ → ℕ → ℕ → ℕ → Looked ℕ Origin
control_origin program plan x p k j s =
    look_or (known (control_in program plan x p k j s)) (control_above program plan x p k (kind_at plan x k))
