-- What is to come in one interval: its pieces, its items and its own steps, by the moments of its process.
use Rattle.std.specs.Prelude.{ℕ, zero, suc, ◌+◌, true, false, ℤ, List, [], ◌∷◌, ◌++◌, Option, Some, None, if◌then◌else◌}
use Rattle.ppd_ast.specs.declared.plan.Plan.{Plan}
use Rattle.ppd_ast.specs.declared.program.Program.{Program}
use Rattle.ppd_ast.specs.declared.status.Status.{Status}
use Rattle.ppd_ast.specs.declared.status.Status.TheVariants as status
use Rattle.ppd_model.specs.Pieces.{Piece, unit, sync, nested, unfinished, postlog, finish}
use Rattle.ppd_sem.specs.declared.proc.Proc.{Proc}
use Rattle.ppd_sem.specs.Process.{act}
use Rattle.ppd_sem.specs.Described.{is_event}
use Rattle.ppd_model.specs.declared.flow.Item.{Item}
use Rattle.ppd_model.specs.declared.flow.Item.TheVariants as item
use Rattle.ppd_model.specs.declared.tracing.Taken.{Taken}
use Rattle.ppd_model.specs.FullTrace.{event_of}
use Rattle.ppd_model.specs.Logs.{passed_value, status_of}
use Rattle.ppd_model.specs.Marks.{Mark, opened, closed}
use Rattle.ppd_model.specs.Story.{Moment, unit_started}
use Rattle.ppd_model.specs.Synchronizations.{Sync, sync_of}

-- an interval that runs directly inside; `level` more run inside it
pub record Inner : Type 0 where
  pub level : ℕ
  pub interval : ℕ
  pub block : ℕ

pub record Coming : Type 0 where
  pub pieces : List Piece
  pub items : List Item
  pub steps : ℕ

-- ---- parts of a step

abbrev pub sync_pieces : Taken → Option Sync → List Piece
sync_pieces x None = []
sync_pieces x (Some s) = sync s.kind s.object s.number (passed_value x.need x.answer) ∷ []

abbrev pub unit_pieces : Option ℕ → List ℤ → List Piece
unit_pieces None values = []
unit_pieces (Some u) values = unit u values ∷ []

abbrev pub step_pieces : Moment → List Piece
step_pieces m = sync_pieces m.taken (sync_of m.taken) ++ unit_pieces (unit_started m.taken.need) m.unit_values

abbrev pub event_items : Program → Plan → Proc → Taken → List Item
event_items program plan s x = if is_event x.need then item.Own (event_of program plan s x s.todo) ∷ [] else []

-- the steps since the last piece
abbrev pub since_after : ℕ → List Piece → ℕ
since_after since [] = since + 1
since_after since (p ∷ ps) = 0

-- the last piece, with the items and steps of the last step
abbrev pub ended : Piece → List Item → ℕ → Coming
ended piece items steps = record { pieces = piece ∷ []; items = items; steps = steps }

-- a step before what is to come
abbrev pub before : List Piece → List Item → ℕ → Coming → Coming
before pieces items steps c = record { pieces = pieces ++ c.pieces; items = items ++ c.items; steps = steps + c.steps }

-- the process waits for ever
abbrev pub at_rest : Option Inner → ℕ → Coming
at_rest None since = ended (finish status.Blocked since) [] 0
at_rest (Some i) since = ended (unfinished i.interval i.block) (item.Nested i.interval i.block [] false ∷ []) 0

-- what is to come after a step: by the interval inside, the number of the next interval, and the steps since
-- the last piece
abbrev pub After : Type 0
After = Option Inner → ℕ → ℕ → Coming

-- ---- a step of the interval's own

abbrev pub own_ends : List Item → Moment → (next since : ℕ) → Option Status → After → Coming
own_ends items m next since (Some status.Budget) after = ended (finish status.Budget since) [] 0
own_ends items m next since (Some s) after = ended (finish s since) items 1
own_ends items m next since None after =
    before (step_pieces m) items 1 (after None next (since_after since (step_pieces m)))

abbrev pub own_closes : List Item → Moment → (next since : ℕ) → Option Mark → Option Status → After → Coming
own_closes items m next since (Some mark) s after = ended (postlog mark.values) items 1
own_closes items m next since None s after = own_ends items m next since s after

abbrev pub own_opens : List Item → Moment → (next since : ℕ)
    → (opens closes : Option Mark) → Option Status → After → Coming
own_opens items m next since (Some mark) closes s after =
    before [] items 1
    (after (Some (record { level = 0; interval = next; block = mark.block })) (next + 1) since)
own_opens items m next since None closes s after = own_closes items m next since closes s after

-- ---- a step of an interval inside

abbrev pub leaves : Inner → ℕ → List ℤ → List Piece → (next since : ℕ) → After → Coming
leaves i zero values units next since after =
    before (nested i.interval i.block values ∷ units)
    (item.Nested i.interval i.block values true ∷ []) 0 (after None next 0)
leaves i (suc level) values units next since after = after (Some (record i { level = level })) next since

abbrev pub inner_ends : Inner → (next since : ℕ) → Option Status → After → Coming
inner_ends i next since (Some s) after = at_rest (Some i) since
inner_ends i next since None after = after (Some i) next since

abbrev pub inner_closes : Inner → Moment → (next since : ℕ) → Option Mark → Option Status → After → Coming
inner_closes i m next since (Some mark) s after =
    leaves i i.level mark.values (unit_pieces (unit_started m.taken.need) m.unit_values) next since after
inner_closes i m next since None s after = inner_ends i next since s after

abbrev pub inner_opens : Inner → Moment → (next since : ℕ)
    → (opens closes : Option Mark) → Option Status → After → Coming
inner_opens i m next since (Some mark) closes s after = after (Some (record i { level = i.level + 1 })) (next + 1) since
inner_opens i m next since None closes s after = inner_closes i m next since closes s after

-- ---- all steps

abbrev pub coming_by : Program → Plan → Proc → Moment → Option Inner → (next since : ℕ) → After → Coming
coming_by program plan s m None next since after =
    own_opens (event_items program plan s m.taken) m next since (opened program plan s m.taken.need)
    (closed program plan s m.taken.need) (status_of m.taken.need) after
coming_by program plan s m (Some i) next since after =
    inner_opens i m next since (opened program plan s m.taken.need)
    (closed program plan s m.taken.need) (status_of m.taken.need) after

abbrev pub coming : Program → Plan → Proc → List Moment → Option Inner → (next since : ℕ) → Coming
coming program plan s [] inner next since = at_rest inner since
coming program plan s (m ∷ ms) inner next since =
    coming_by program plan s m inner next since (coming program plan (act program plan s m.taken.answer) ms)
