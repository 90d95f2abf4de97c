-- The intervals of a process as a run goes on: its events, what stands in each interval, and which of them run.
use Rattle.ppd_model.specs.Setting.{Setting}
use Rattle.std.specs.Prelude.{◌≡◌, ℕ, ◌+◌, ℤ, Bool, true, false, List, [], ◌∷◌, ◌++◌, drop, fold, length, slice_get, Option, Some, None, unwrap_or}
use Rattle.std.specs.List.{flat_map}
use Rattle.ppd_ast.specs.declared.plan.BlockKind.TheVariants as block
use Rattle.ppd_ast.specs.declared.plan.Plan.{Plan}
use Rattle.ppd_ast.specs.declared.program.Program.{Program}
use Rattle.ppd_sem.specs.declared.event.Event.{Event}
use Rattle.ppd_sem.specs.declared.proc.Need.{Need}
use Rattle.ppd_sem.specs.declared.proc.Need.TheVariants.{Enter, Invoke}
use Rattle.ppd_sem.specs.declared.proc.Proc.{Proc}
use Rattle.ppd_sem.specs.Described.{is_event}
use Rattle.ppd_sem.specs.Process.{act, started}
use Rattle.ppd_sem.specs.Tables.{block_of}
use Rattle.ppd_model.specs.declared.flow.Item.{Item}
use Rattle.ppd_model.specs.declared.flow.Item.TheVariants as item
use Rattle.ppd_model.specs.FullTrace.{event_of}
use Rattle.ppd_model.specs.Marks.{Mark, closed}
use Rattle.ppd_model.specs.declared.tracing.Story.{Story}
use Rattle.ppd_model.specs.declared.tracing.Taken.{Taken}
use Rattle.ppd_model.specs.World.{change}
use Rattle.ppd_rerun_ran.specs.declared.held.Kept.{Kept}
use Rattle.ppd_rerun_ran.specs.declared.held.Part.{Part}
use Rattle.ppd_rerun_ran.specs.declared.held.Part.TheVariants.{Own, Nested}

-- the events so far, the intervals, and the numbers of those that run with the innermost first
pub record Holding : Type 0 where
  pub events : List Event
  pub spans : List Kept
  pub running : List ℕ

-- ---- one step

-- the interval of this number is changed, if there is one
abbrev pub change_if : (Kept → Kept) → Option ℕ → List Kept → List Kept
change_if f None spans = spans
change_if f (Some k) spans = change f k spans

-- the interval of the first of these numbers is changed
abbrev pub change_inner : (Kept → Kept) → List ℕ → List Kept → List Kept
change_inner f ks spans = change_if f (slice_get ks 0) spans

-- one more part
abbrev pub with_one : Part → Kept → Kept
with_one part i = record i { parts = i.parts ++ part ∷ [] }

-- left with these values
abbrev pub left_with : List ℤ → Kept → Kept
left_with values i = record i { values = values; closed = true }

-- the event of a step is a part of the innermost interval
abbrev pub hold_event : Bool → Event → Holding → Holding
hold_event false e h = h
hold_event true e h = record {
  events = h.events ++ e ∷ [];
  spans = change_inner (with_one (Own (length h.events))) h.running h.spans;
  running = h.running;
}

-- the innermost interval is left
abbrev pub hold_left : Option Mark → Holding → Holding
hold_left None h = h
hold_left (Some m) h =
    record h { spans = change_inner (left_with m.values) h.running h.spans; running = drop 1 h.running }

-- an interval that begins
abbrev pub new_kept : ℕ → Kept
new_kept b = record { block = b; parts = []; values = []; closed = false }

-- the block that a step of this need enters
abbrev pub entered_by : Need → Option ℕ
entered_by (Enter b u) = Some b
entered_by (Invoke b u) = b
entered_by need = None

-- an interval begins inside the innermost one
abbrev pub hold_entered : Option ℕ → Holding → Holding
hold_entered None h = h
hold_entered (Some b) h = record h {
  spans = change_inner (with_one (Nested (length h.spans))) h.running h.spans ++ new_kept b ∷ [];
  running = length h.spans ∷ h.running;
}

-- a step of a process in this state: its event, then the intervals that it leaves and enters
abbrev pub hold_step : Program → Plan → Proc → Holding → Taken → Holding
hold_step program plan s h x =
    hold_entered (entered_by x.need)
    (hold_left (closed program plan s x.need)
    (hold_event (is_event x.need) (event_of program plan s x s.todo) h))

-- ---- a process

-- a process with what is held of it
pub record Course : Type 0 where
  pub proc : Proc
  pub held : Holding

-- one more step
abbrev pub held_on : Program → Plan → Course → Taken → Course
held_on program plan g x =
    record { proc = act program plan g.proc x.answer; held = hold_step program plan g.proc g.held x }

-- an interval of this block runs
abbrev pub begun_in : ℕ → Holding
begun_in b = record { events = []; spans = new_kept b ∷ []; running = 0 ∷ [] }

-- before its first step the interval of a process's body runs
abbrev pub begun_held : Program → Plan → ℕ → Holding
begun_held program plan p = begun_in (unwrap_or (block_of plan (block.Process (program.functions + p))) 0)

-- process p before its first step
abbrev pub begun_course : Setting → ℕ → Course
begun_course setting p =
    record {
      proc = started setting.program setting.plan p setting.budget;
      held = begun_held setting.program setting.plan p;
    }

-- process p after its steps
abbrev pub course : Setting → ℕ → List Taken → Course
course setting p steps = fold (held_on setting.program setting.plan) (begun_course setting p) steps

-- the processes from number p on
abbrev pub courses_from : Setting → ℕ → List (List Taken) → List Course
courses_from setting p [] = []
courses_from setting p (steps ∷ rest) =
    course setting p steps ∷ courses_from setting (p + 1) rest

-- the processes of a story
abbrev pub courses : Setting → Story → List Course
courses setting story = courses_from setting 0 story.steps

-- ---- items

abbrev pub item_of_event : Option Event → List Item
item_of_event None = []
item_of_event (Some e) = item.Own e ∷ []

abbrev pub item_of_kept : ℕ → Option Kept → List Item
item_of_kept m None = []
item_of_kept m (Some i) = item.Nested m i.block i.values i.closed ∷ []

-- the item that a part is
abbrev pub held_item : Holding → Part → List Item
held_item h (Own n) = item_of_event (slice_get h.events n)
held_item h (Nested m) = item_of_kept m (slice_get h.spans m)

abbrev pub items_of_kept : Holding → Option Kept → Option (List Item)
items_of_kept h None = None
items_of_kept h (Some i) = Some (flat_map (held_item h) i.parts)

-- the items of interval k
abbrev pub held_items : Holding → ℕ → Option (List Item)
held_items h k = items_of_kept h (slice_get h.spans k)

-- ---- one item for each part

-- each part is one item
abbrev pub AreOnes : Holding → List Part → Type 0
AreOnes h parts = (i : ℕ) (part : Part) → slice_get parts i ≡ Some part → length (held_item h part) ≡ 1

-- so it is in each interval
abbrev pub AreWhole : Holding → Type 0
AreWhole h = (k : ℕ) (i : Kept) → slice_get h.spans k ≡ Some i → AreOnes h i.parts

-- the items of interval k of a process of which something is held
abbrev pub items_if : ℕ → Option Holding → Option (List Item)
items_if k None = None
items_if k (Some h) = held_items h k

-- the items of interval k of process p
abbrev pub items_at : List Holding → ℕ → ℕ → Option (List Item)
items_at held p k = items_if k (slice_get held p)
