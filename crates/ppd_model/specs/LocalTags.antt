-- The events that write the local cells of a process, and the tags that the cells then have.
use Rattle.ppd_model.specs.Setting.{Setting}
use Rattle.ppd_ast.specs.declared.plan.Plan.{Plan}
use Rattle.ppd_ast.specs.declared.program.Program.{Program}
use Rattle.ppd_model.specs.FullTrace.{Activation, Tag, Tracing, begun_tracing, event_of, me_in, tag_past, top_tags, trace_step, tracing_of}
use Rattle.ppd_model.specs.Story.{Story, Taken, story}
use Rattle.ppd_sem.specs.Asked.{Asked}
use Rattle.ppd_sem.specs.Deed.{Deed, back}
use Rattle.ppd_sem.specs.Described.{frame_of, is_event}
use Rattle.ppd_sem.specs.Process.{act, head_deed, into_at, need_of, started, top_frame}
use Rattle.ppd_sem.specs.Runs.{sizes}
use Rattle.ppd_sem.specs.declared.event.Spot.{Spot}
use Rattle.ppd_sem.specs.declared.event.Spot.TheVariants.{Local, Shared}
use Rattle.ppd_sem.specs.declared.proc.Frame.{Frame}
use Rattle.ppd_sem.specs.declared.proc.Proc.{Proc}
use Rattle.ppd_sem.specs.declared.proc.Todo.{Todo}
use Rattle.std.specs.List.{list_any}
use Rattle.std.specs.Prelude.{Bool, List, None, Ok, Option, Some, [], false, fold, get_or, if◌then◌else◌, length, map, nat_eq, true, ℕ, ℤ, ⊤, ◌&&◌, ◌++◌, ◌+◌, ◌-◌, ◌<◌, ◌||◌, ◌∷◌, ◌≡◌, ◌≤◌, ◌⊎◌}

-- ---- activations by their numbers

-- the element with this number, counted from 0 at the list's end
abbrev pub from_end : {A : Type 0} → A → List A → ℕ → A
from_end none [] k = none
from_end none (x ∷ xs) k = if nat_eq k (length xs) then x else from_end none xs k

-- the tags of the local cells of each activation
abbrev pub locals : List Activation → List (List Tag)
locals xs = map (λ x. x.tags) xs

-- how many local cells the activation with this number has
abbrev pub cells_in : List Frame → ℕ → ℕ
cells_in frames k = from_end 0 (sizes frames) k

-- the tag of a local cell of the activation with this number
abbrev pub local_tag : List Activation → ℕ → ℕ → Tag
local_tag xs k c = get_or (from_end [] (locals xs) k) c None

-- ---- the steps that write

-- the spot is cell c of activation k, where the top one of n has this frame's number and one that it calls has one more
abbrev pub is_cell : (frame n k c : ℕ) → Spot → Bool
is_cell frame n k c (Local f d) = nat_eq (k + frame + 1) (n + f) && nat_eq d c
is_cell frame n k c (Shared d) = false

-- the cell is among the writes of the step's event
abbrev pub is_in_writes : Program → Plan → Proc → Taken → ℕ → ℕ → Bool
is_in_writes program plan s x k c =
    list_any (λ a. is_cell (frame_of program plan s) (length s.frames) k c a.spot)
    (event_of program plan s x s.todo).writes

-- the cell is the local that receives the value, where there are a local and a value
abbrev pub is_into : Option ℕ → Option ℤ → ℕ → Bool
is_into (Some d) (Some v) c = nat_eq d c
is_into into value c = false

-- the statement returns a value, which the cell of the activation below the top one receives
abbrev pub is_received_by : Program → List Frame → ℕ → ℕ → Asked Deed → Bool
is_received_by program frames k c (Ok (back value, left)) =
    nat_eq (k + 2) (length frames) && is_into (into_at program (top_frame frames).call) value c
is_received_by program frames k c asked = false

-- the head statement does so
abbrev pub is_received : Program → Proc → ℕ → ℕ → List Todo → Bool
is_received program s k c [] = false
is_received program s k c (t ∷ ts) = is_received_by program s.frames k c (head_deed program t s)

-- the step's event writes cell c of activation k, as a write of its own or by the value that it returns
abbrev pub is_local_write : Program → Plan → ℕ → ℕ → Proc → Taken → Bool
is_local_write program plan k c s x =
    is_event x.need && (is_in_writes program plan s x k c || is_received program s k c s.todo)

-- ---- one step

-- the tags are of the frames' cells, one of each
abbrev pub HasTags : Tracing → Type 0
HasTags t = map length (locals t.activations) ≡ sizes t.proc.frames

-- a step tags each cell that it writes with its event and keeps the other tags; a new activation's other cells have
-- none
pub record TagsItsWrites (program : Program) (plan : Plan) (p : ℕ) (t now : Tracing) (x : Taken) : Type 0 where
  pub has_tags : HasTags now
  pub same_cells : (k : ℕ) → k < length t.proc.frames → k < length now.proc.frames
      → cells_in now.proc.frames k ≡ cells_in t.proc.frames k
  pub written : (k c : ℕ) → is_local_write program plan k c t.proc x ≡ true → c < cells_in now.proc.frames k
      → local_tag now.activations k c ≡ Some (me_in p t)
  pub kept : (k c : ℕ) → is_local_write program plan k c t.proc x ≡ false → k < length t.proc.frames
      → k < length now.proc.frames → local_tag now.activations k c ≡ local_tag t.activations k c
  pub fresh : (k c : ℕ) → is_local_write program plan k c t.proc x ≡ false → length t.proc.frames ≤ k
      → local_tag now.activations k c ≡ None

-- so does each step that the process itself takes
abbrev pub StepsTagTheirWrites : Type 0
StepsTagTheirWrites =
    (program : Program) (plan : Plan) (story : Story) (p : ℕ) (t : Tracing) (x : Taken) → HasTags t
    → x.need ≡ need_of program plan t.proc
    → TagsItsWrites program plan p t (trace_step program plan story p t x) x

-- ---- all steps

-- the process's own steps: each has the need of the state that it is taken from
abbrev pub AreOwn : Program → Plan → Proc → List Taken → Type 0
AreOwn program plan s [] = ⊤
AreOwn program plan s (x ∷ xs) =
    (x.need ≡ need_of program plan s) × AreOwn program plan (act program plan s x.answer) xs

-- the steps that a story tells of a process are its own
abbrev pub StoriesTellOwnSteps : Type 0
StoriesTellOwnSteps =
    (setting : Setting) (h : List ℕ) (p : ℕ)
    → AreOwn setting.program setting.plan (started setting.program setting.plan p setting.budget)
    (get_or (story setting h).steps p [])

-- through these steps the activation goes on, and none writes the cell
abbrev pub IsSteady : Program → Plan → ℕ → ℕ → Proc → List Taken → Type 0
IsSteady program plan k c s [] = ⊤
IsSteady program plan k c s (x ∷ xs) =
    (is_local_write program plan k c s x ≡ false)
    × ((k < length (act program plan s x.answer).frames)
    × IsSteady program plan k c (act program plan s x.answer) xs)

-- the event is that of the last step that writes the cell in this activation
pub record IsLastLocalWrite (program : Program) (plan : Plan) (story : Story) (p k c : ℕ) (t : Tracing)
    (steps : List Taken) (tag : Tag) : Type 0 where
  pub before : List Taken
  pub taken : Taken
  pub after : List Taken
  pub steps_are : steps ≡ before ++ taken ∷ after
  pub writes : is_local_write program plan k c (fold (trace_step program plan story p) t before).proc taken ≡ true
  pub tag_is : tag ≡ Some (me_in p (fold (trace_step program plan story p) t before))
  pub steady : IsSteady program plan k c
      (act program plan (fold (trace_step program plan story p) t before).proc taken.answer) after

-- a step begins the activation and does not write the cell, and no later one does: there is no tag
pub record IsUnwrittenSinceCall (program : Program) (plan : Plan) (story : Story) (p k c : ℕ) (t : Tracing)
    (steps : List Taken) (tag : Tag) : Type 0 where
  pub before : List Taken
  pub taken : Taken
  pub after : List Taken
  pub steps_are : steps ≡ before ++ taken ∷ after
  pub is_new : length (fold (trace_step program plan story p) t before).proc.frames ≤ k
  pub begins : k < length (act program plan (fold (trace_step program plan story p) t before).proc taken.answer).frames
  pub no_write : is_local_write program plan k c (fold (trace_step program plan story p) t before).proc taken ≡ false
  pub tag_is : tag ≡ None
  pub steady : IsSteady program plan k c
      (act program plan (fold (trace_step program plan story p) t before).proc taken.answer) after

-- the activation was there before the first step, and no step writes the cell: there is no tag
pub record IsUnwrittenSinceStart (program : Program) (plan : Plan) (k c : ℕ) (t : Tracing) (steps : List Taken)
    (tag : Tag) : Type 0 where
  pub is_there : k < length t.proc.frames
  pub tag_is : tag ≡ None
  pub steady : IsSteady program plan k c t.proc steps

-- the tag of a cell after these steps is of one of these three kinds
abbrev pub IsLocalTag : Program → Plan → Story → (p k c : ℕ) → Tracing → List Taken → Tag → Type 0
IsLocalTag program plan story p k c t steps tag =
    IsLastLocalWrite program plan story p k c t steps tag
    ⊎ (IsUnwrittenSinceCall program plan story p k c t steps tag ⊎ IsUnwrittenSinceStart program plan k c t steps tag)

-- the traces of a process's own steps have a tag for each local cell, which is the event that last wrote it
pub record HasLocalTags (program : Program) (plan : Plan) (story : Story) (p : ℕ) (t now : Tracing)
    (steps : List Taken) : Type 0 where
  pub has_tags : HasTags now
  pub tags_are : (k c : ℕ) → c < cells_in now.proc.frames k
      → IsLocalTag program plan story p k c t steps (local_tag now.activations k c)

-- so it is after all steps of the process's own, from its start
abbrev pub LocalTagsAreLastWrites : Type 0
LocalTagsAreLastWrites =
    (setting : Setting) (story : Story) (p : ℕ) (steps : List Taken)
    → AreOwn setting.program setting.plan (started setting.program setting.plan p setting.budget) steps
    → HasLocalTags setting.program setting.plan story p
    (begun_tracing (started setting.program setting.plan p setting.budget))
    (tracing_of setting story p steps) steps

-- so it is at each time of a schedule, after the steps that the process took before it
abbrev pub SchedulesTagLastWrites : Type 0
SchedulesTagLastWrites =
    (setting : Setting) (h : List ℕ) (p : ℕ) (before after : List Taken)
    → get_or (story setting h).steps p [] ≡ before ++ after
    → HasLocalTags setting.program setting.plan (story setting h) p
    (begun_tracing (started setting.program setting.plan p setting.budget))
    (tracing_of setting (story setting h) p before) before

-- a local cell that an event reads is one of the top activation, and its tag is that cell's
abbrev pub ReadsAreOfTheTop : Type 0
ReadsAreOfTheTop =
    (xs : List Activation) (answers : List Tag) (frame c : ℕ)
    → (tag_past (top_tags xs) answers (Local frame c)).0 ≡ local_tag xs (length xs - 1) c
