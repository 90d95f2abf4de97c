-- The log intervals of a process and their items, from the process's own steps.
use Rattle.ppd_model.specs.Setting.{Setting}
use Rattle.std.specs.Prelude.{ℕ, ◌+◌, nat_eq, ℤ, Bool, false, List, [], ◌∷◌, ◌++◌, map, fold, drop, length, get_or, slice_get, position, Option, Some, None, is_some, if◌then◌else◌, unwrap_or, option_map, option_and_then}
use Rattle.std.specs.List.{enumerate_from, flat_map}
use Rattle.std.specs.Option.{option_map_or}
use Rattle.ppd_sem.specs.Blocks.{postlog_cells}
use Rattle.ppd_ast.specs.declared.plan.BlockKind.TheVariants as block
use Rattle.ppd_ast.specs.declared.plan.Plan.{Plan}
use Rattle.ppd_ast.specs.declared.program.Program.{Program}
use Rattle.ppd_sem.specs.declared.proc.Need.{Need}
use Rattle.ppd_sem.specs.declared.proc.Need.TheVariants.{Enter, Leave, Budget, Stopped}
use Rattle.ppd_sem.specs.declared.proc.Proc.{Proc}
use Rattle.ppd_sem.specs.Described.{frame_of, is_event}
use Rattle.ppd_sem.specs.Process.{started}
use Rattle.ppd_sem.specs.Tables.{block_of}
use Rattle.ppd_model.specs.declared.flow.Item.{Item}
use Rattle.ppd_model.specs.declared.flow.Item.TheVariants as item
use Rattle.ppd_model.specs.declared.flow.Origin.{Origin}
use Rattle.ppd_model.specs.declared.flow.Origin.TheVariants as origin
use Rattle.ppd_model.specs.declared.trace.EventId.{EventId}
use Rattle.ppd_model.specs.World.{change}
use Rattle.ppd_model.specs.Story.{Taken, Story}
use Rattle.ppd_model.specs.FullTrace.{Tag, Tracing, begun_tracing, me_in, parent_at, top_tags, trace_step}
use Rattle.ppd_model.specs.Record.{edge_after}
use Rattle.ppd_model.specs.Marks.{opened, closed}

-- what stands in an interval: an event of its own, or an interval directly inside it, by number
pub data Part : Type 0 where
  own : ℕ → Part
  nested : ℕ → Part

-- an interval: its block, the intervals round it with the innermost first, as an item its frame and
-- control parent, its parts, its count of own steps, the numbers of the steps that wrote its prelog
-- and its postlog (0 for a process's own prelog), and the postlog's values with their tags
pub record Span : Type 0 where
  pub block : ℕ
  pub round : List ℕ
  pub frame : ℕ
  pub control : Option EventId
  pub parts : List Part
  pub steps : ℕ
  pub opened : ℕ
  pub closed : Option ℕ
  pub values : List ℤ
  pub left : List Tag

-- a process's trace, the edge that each of its steps is in and the edge of the next, its intervals,
-- and the numbers of those that are running with the innermost first
pub record Split : Type 0 where
  pub trace : Tracing
  pub edges : List ℕ
  pub edge : ℕ
  pub spans : List Span
  pub running : List ℕ

-- ---- opening and closing

-- the interval of the first of these numbers is changed
abbrev pub change_first : {A : Type 0} → (A → A) → List ℕ → List A → List A
change_first f [] xs = xs
change_first f (k ∷ ks) xs = change f k xs

-- the innermost running interval is changed
abbrev pub innermost : (Span → Span) → Split → Split
innermost f x = record x { spans = change_first f x.running x.spans }

-- an interval with one more part
abbrev pub with_part : Part → Span → Span
with_part part i = record i { parts = i.parts ++ part ∷ [] }

-- an interval that begins with the next step, inside those that are running
abbrev pub new_span : Split → ℕ → ℕ → Option EventId → Span
new_span x b frame control = record {
  block = b;
  round = x.running;
  frame = frame;
  control = control;
  parts = [];
  steps = 0;
  opened = length x.edges;
  closed = None;
  values = [];
  left = [];
}

-- the new interval is a part of the innermost one, and then the innermost itself
abbrev pub begin_span : ℕ → ℕ → Option EventId → Split → Split
begin_span b frame control x =
    let outer = innermost (with_part (nested (length x.spans))) x in
    record outer { spans = outer.spans ++ new_span x b frame control ∷ []; running = length x.spans ∷ x.running }

-- the innermost interval is closed, with the values of its postlog and their tags
abbrev pub end_span : List ℤ → List Tag → Split → Split
end_span values left x =
    let ended = innermost (λ i. record i { closed = Some (length x.edges); values = values; left = left }) x in
    record ended { running = drop 1 x.running }

-- the tags of the values of a postlog: of a loop's local cells their own, of a returned value its return
abbrev pub left_by : Plan → EventId → List Tag → Need → List Tag
left_by plan me locals (Leave b u) = map (λ c. get_or locals c None) (postlog_cells plan b)
left_by plan me locals need = Some me ∷ []

-- ---- one step

-- the step is the innermost interval's own, but a stop for the budget, which is no interval's
abbrev pub with_step : Need → Split → Split
with_step Budget x = x
with_step Stopped x = x
with_step need x = innermost (λ i. record i { steps = i.steps + 1 }) x

-- an event is an item before its step opens or closes an interval
abbrev pub with_own : Need → Split → Split
with_own need x = if is_event need then innermost (with_part (own (length x.trace.events))) x else x

-- an interval as an item has the parent of the loop's first test, or the call
abbrev pub control_by : Program → ℕ → Tracing → Need → Option EventId
control_by program p t (Enter b u) = parent_at program t.activations t.proc.todo
control_by program p t need = Some (me_in p t)

-- a step that leaves a block ends its interval, and one that enters a block begins an interval
abbrev pub with_marks : Program → Plan → ℕ → Need → Split → Split
with_marks program plan p need x =
    let left = left_by plan (me_in p x.trace) (top_tags x.trace.activations) need in
    let ended = option_map_or (λ m. end_span m.values left x) (closed program plan x.trace.proc need) x in
    let frame = frame_of program plan x.trace.proc in
    option_map_or (λ m. begin_span m.block frame (control_by program p x.trace need) ended)
    (opened program plan x.trace.proc need) ended

-- one more step: its own interval, its event, the intervals that it ends and begins, and its edge
abbrev pub split_step : Program → Plan → Story → ℕ → Split → Taken → Split
split_step program plan story p x step =
    record (with_marks program plan p step.need (with_own step.need (with_step step.need x))) {
      trace = trace_step program plan story p x.trace step;
      edges = x.edges ++ x.edge ∷ [];
      edge = edge_after x.edge step;
    }

-- ---- a process, and all of them

-- interval 0 is the process's body
abbrev pub begun_split : Program → Plan → ℕ → Proc → Split
begun_split program plan p s =
    begin_span (unwrap_or (block_of plan (block.Process (program.functions + p))) 0) 0 None (record {
      trace = begun_tracing s;
      edges = [];
      edge = 0;
      spans = [];
      running = [];
    })

-- process p in its intervals, by its own steps
abbrev pub split_of : Setting → Story → ℕ → List Taken → Split
split_of setting story p steps =
    fold (split_step setting.program setting.plan story p)
    (begun_split setting.program setting.plan p (started setting.program setting.plan p setting.budget)) steps

-- the processes of a story in their intervals
abbrev pub splits : Setting → Story → List Split
splits setting story =
    map (λ e. split_of setting story e.0 e.1) (enumerate_from 0 story.steps)

-- ---- intervals

-- the intervals of a process that is there
abbrev pub spans_in : Option Split → List Span
spans_in None = []
spans_in (Some x) = x.spans

-- the intervals of process p
abbrev pub intervals : Setting → Story → ℕ → List Span
intervals setting story p = spans_in (slice_get (splits setting story) p)

-- ---- items

-- the item that a part is, if its event or interval is there
abbrev pub item_of : Split → Part → List Item
item_of x (own n) = option_map_or (λ e. item.Own e.event ∷ []) (slice_get x.trace.events n) []
item_of x (nested m) =
    option_map_or (λ i. item.Nested m i.block i.values (is_some i.closed) ∷ []) (slice_get x.spans m) []

-- the items of an interval
abbrev pub items_of : Split → Span → List Item
items_of x i = flat_map (item_of x) i.parts

-- the items of interval k of process p, and None where there is no such interval
abbrev pub items : Setting → Story → ℕ → ℕ → Option (List Item)
items setting story p k =
    option_and_then (λ x. option_map (items_of x) (slice_get x.spans k))
    (slice_get (splits setting story) p)

-- ---- where an event is an item

-- the part is event n
abbrev pub is_own : ℕ → Part → Bool
is_own n (own m) = nat_eq n m
is_own n (nested m) = false

-- the interval, of these from number k on, and the item that is event n
abbrev pub place_in : ℕ → ℕ → List Span → Option (ℕ × ℕ)
place_in n k [] = None
place_in n k (i ∷ is) = option_map_or (λ j. Some (k, j)) (position (is_own n) i.parts) (place_in n (k + 1) is)

-- the process, interval and item at which an event is an own item
abbrev pub ref : List Split → EventId → Origin
ref xs e =
    let at = λ (place : ℕ × ℕ). origin.Item e.process place.0 place.1 in
    option_map_or (λ x. option_map_or at (place_in e.number 0 x.spans) origin.Entry)
    (slice_get xs e.process) origin.Entry
