-- The last write of a local cell before a place in an interval, with the intervals that are replayed to find it.
-- The items of the interval itself are there; no list of replays names it.
use Rattle.std.specs.Prelude.{ℕ, ◌+◌, nat_eq, ℤ, Bool, true, false, not, ◌&&◌, List, [], ◌∷◌, fold, take, get_or, Option, Some, None, is_some, if◌then◌else◌}
use Rattle.std.specs.List.{list_any}
use Rattle.ppd_ast.specs.declared.plan.BlockKind.{BlockKind}
use Rattle.ppd_ast.specs.declared.plan.BlockKind.TheVariants as block
use Rattle.ppd_ast.specs.declared.plan.Plan.{Plan}
use Rattle.ppd_ast.specs.declared.program.Kind.{Kind}
use Rattle.ppd_ast.specs.declared.program.Kind.TheVariants as kind
use Rattle.ppd_ast.specs.declared.program.Program.{Program}
use Rattle.ppd_ast.specs.Lookups.{kind_of}
use Rattle.ppd_sem.specs.declared.event.Event.{Event}
use Rattle.ppd_sem.specs.declared.event.Spot.{Spot}
use Rattle.ppd_sem.specs.declared.event.Spot.TheVariants.{Local, Shared}
use Rattle.ppd_sem.specs.Blocks.{block_kind, postlog_cells, prelog_cells}
use Rattle.ppd_sem.specs.Process.{into_of}
use Rattle.ppd_sem.specs.Runs.{returns}
use Rattle.ppd_sem.specs.Tables.{block_of}
use Rattle.ppd_model.specs.declared.flow.Item.{Item}
use Rattle.ppd_model.specs.declared.flow.Item.TheVariants as item
use Rattle.ppd_model.specs.declared.flow.Origin.{Origin}
use Rattle.ppd_model.specs.declared.flow.Origin.TheVariants as origin
use Rattle.ppd_model.specs.NearIntervals.{is_in}
use Rattle.ppd_model.specs.Synchronizations.{is_number}
use Rattle.ppd_graph.specs.declared.leaf_call.LeafCall.{LeafCall}
use Rattle.ppd_graph.specs.declared.writer.Writer.{Writer}
use Rattle.ppd_graph.specs.declared.writer.Writer.TheVariants.{Before, Fresh, At, Of}
use Rattle.ppd_graph.specs.Looked.{Looked, after_replay, known, look_map, look_or, or_look}
use Rattle.ppd_graph.specs.Seen.{Seen, call_of, kind_at, last_item, outer_of, outer_place}

-- ---- activations without an interval of their own

-- a call of a function that is no block
abbrev pub is_leaf_call : Plan → Kind → Bool
is_leaf_call plan (kind.Call f args into) = not (is_some (block_of plan (block.Function f)))
is_leaf_call plan k = false

-- the event begins such an activation
abbrev pub begins_leaf : Program → Plan → Event → Bool
begins_leaf program plan e = not (is_some e.trap) && is_leaf_call plan (kind_of program e.stmt)

-- the call whose activation goes on after item i, an event: such a function calls none, so there is one at most
abbrev pub leaf_after : Program → Plan → ℕ → Event → Option LeafCall → Option LeafCall
leaf_after program plan i e leaf =
    if begins_leaf program plan e then Some (record { item = i; stmt = e.stmt })
    else if returns (kind_of program e.stmt) then None
    else leaf

-- 1 in such an activation, and 0 in the interval's own
abbrev pub frame_in : Option LeafCall → ℕ
frame_in None = 0
frame_in (Some call) = 1

-- ---- the last write among the first items of an interval

-- the number of the next item, the call whose activation goes on, the statement of the last event, the
-- cell's writer, and the loops since that may have written the cell too, the last first
pub record Scan : Type 0 where
  pub next : ℕ
  pub leaf : Option LeafCall
  pub call : ℕ
  pub writer : Writer
  pub loops : List ℕ

-- the spot is cell c of this frame
abbrev pub is_local : ℕ → ℕ → Spot → Bool
is_local frame c (Local f d) = nat_eq frame f && nat_eq c d
is_local frame c (Shared d) = false

-- the event returns from the activation that goes on, with a value that cell c of frame 0 receives
abbrev pub receives : Program → ℕ → ℕ → Event → Option LeafCall → Bool
receives program frame c e None = false
receives program frame c e (Some call) =
    nat_eq frame 0 && not (is_some e.trap) && returns (kind_of program e.stmt) && is_some e.value
    && is_number (into_of (kind_of program call.stmt)) c

-- the cell's writer, and no loop since
abbrev pub written_by : Writer → Scan → Scan
written_by w s = record s { writer = w; loops = [] }

-- an event writes the cell, begins the activation that it is of, or returns a value to it
abbrev pub scan_event : Program → Plan → ℕ → ℕ → Event → Scan → Scan
scan_event program plan frame c e s =
    if list_any (λ a. is_local frame c a.spot) e.writes then written_by (At s.next) s
    else if begins_leaf program plan e && nat_eq frame 1 then written_by Fresh s
    else if receives program frame c e s.leaf then written_by (At s.next) s
    else s

-- interval m, which was left, is a loop of the frame with the cell in its postlog, or of a function with a
-- value that the cell receives
abbrev pub scan_interval : Program → Plan → ℕ → ℕ → ℕ → BlockKind → List ℕ → List ℤ → Scan → Scan
scan_interval program plan frame c m (block.Loop l) cells values s =
    if nat_eq frame (frame_in s.leaf) && is_in c cells then record s { loops = m ∷ s.loops } else s
scan_interval program plan frame c m k cells [] s = s
scan_interval program plan frame c m k cells (v ∷ vs) s =
    if nat_eq frame 0 && is_number (into_of (kind_of program s.call)) c then written_by (Of m) s else s

-- one more item
abbrev pub scan_item : Program → Plan → ℕ → ℕ → Scan → Item → Scan
scan_item program plan frame c s (item.Own e) =
    record (scan_event program plan frame c e s) {
      next = s.next + 1;
      leaf = leaf_after program plan s.next e s.leaf;
      call = e.stmt;
    }
scan_item program plan frame c s (item.Nested m b values false) = record s { next = s.next + 1 }
scan_item program plan frame c s (item.Nested m b values true) =
    record (scan_interval program plan frame c m (block_kind plan b) (postlog_cells plan b) values s) {
      next = s.next + 1;
    }

-- before the first item
abbrev pub begun_scan : Scan
begun_scan = record { next = 0; leaf = None; call = 0; writer = Before; loops = [] }

-- these items, for cell c of this frame
abbrev pub scan : Program → Plan → ℕ → ℕ → List Item → Scan
scan program plan frame c items = fold (scan_item program plan frame c) begun_scan items

-- the call whose activation goes on after these items
abbrev pub leaf_at : Program → Plan → List Item → Option LeafCall
leaf_at program plan items = (scan program plan 0 0 items).leaf

-- the frame of interval m in the interval directly round it
abbrev pub outer_frame : Program → Plan → Seen → ℕ → ℕ
outer_frame program plan x m =
    frame_in (leaf_at program plan (take (outer_place x m) (get_or x.items (outer_of x m) [])))

-- ---- within an interval and its loops

-- where the writer among the items of interval m is, if there is one
abbrev pub writer_at : Seen → ℕ → ℕ → Writer → Looked ℕ (Option Origin)
writer_at x p m Before = known None
writer_at x p m Fresh = known (Some origin.Initial)
writer_at x p m (At i) = known (Some (origin.Item p m i))
writer_at x p m (Of k) = look_map (λ from. Some from) (last_item x p k)

-- the write in the first of these loops in which the cell is written
abbrev pub in_loops : Program → Plan → Seen → ℕ → ℕ → List ℕ → Looked ℕ (Option Origin)
in_loops program plan x p c [] = known None
in_loops program plan x p c (m ∷ ms) =
    or_look (after_replay m (writer_at x p m (scan program plan 0 c (get_or x.items m [])).writer))
    (in_loops program plan x p c ms)

-- the last write in interval k before place j
abbrev pub local_in : Program → Plan → Seen → ℕ → ℕ → ℕ → ℕ → ℕ → Looked ℕ (Option Origin)
local_in program plan x p k j frame c =
    let s = scan program plan frame c (take j (get_or x.items k [])) in
    or_look (in_loops program plan x p c s.loops) (writer_at x p k s.writer)

-- ---- outside it

-- the call, for a parameter of interval k, one of a function; else the start value
abbrev pub parameter : Plan → Seen → ℕ → ℕ → ℕ → BlockKind → Looked ℕ Origin
parameter plan x p k c (block.Function f) =
    if is_in c (prelog_cells plan (get_or x.blocks k 0)) then call_of x p k else known origin.Initial
parameter plan x p k c kind = known origin.Initial

-- the last write in interval k before place j, or what the interval began with; block loops do not stand in
-- one another, so no loop is round a loop of the same activation
abbrev pub local_outside : Program → Plan → Seen → ℕ → ℕ → ℕ → ℕ → ℕ → Looked ℕ Origin
local_outside program plan x p k j frame c =
    look_or (local_in program plan x p k j frame c) (parameter plan x p k c (kind_at plan x k))

-- what the cell had when interval k began: for a loop the last write before it
abbrev pub local_above : Program → Plan → Seen → ℕ → ℕ → ℕ → BlockKind → Looked ℕ Origin
local_above program plan x p k c (block.Loop l) =
    after_replay (outer_of x k)
    (local_outside program plan x p (outer_of x k) (outer_place x k) (outer_frame program plan x k) c)
local_above program plan x p k c kind = parameter plan x p k c kind

-- the last write of local cell c of this frame before place j of interval k of process p
abbrev pub local_origin : Program → Plan → Seen → ℕ → ℕ → ℕ → ℕ → ℕ → Looked ℕ Origin
local_origin program plan x p k j frame c =
    look_or (local_in program plan x p k j frame c) (local_above program plan x p k c (kind_at plan x k))
