-- What the proofs speak of: the parts of the definitions, each by a name of its own.
use Rattle.ppd_ast.specs.declared.plan.Plan.{Plan}
use Rattle.ppd_ast.specs.declared.program.Program.{Program}
use Rattle.ppd_model.specs.Replay.{Replaying, Turn, counted, past_piece, received, stepped, take_unit, with_call, with_event, with_item}
use Rattle.ppd_model.specs.declared.wanted.Wanted.{Wanted}
use Rattle.ppd_model.specs.declared.wanted.Wanted.TheVariants as wanted
use Rattle.ppd_model.specs.Marks.{Mark}
use Rattle.ppd_model.specs.Story.{unit_started}
use Rattle.ppd_model.specs.declared.flow.Item.TheVariants as item
use Rattle.ppd_sem.specs.Blocks.{skipped, unit_past}
use Rattle.ppd_sem.specs.Described.{described}
use Rattle.ppd_sem.specs.declared.proc.Answer.{Answer}
use Rattle.ppd_sem.specs.declared.proc.Need.{Need}
use Rattle.ppd_sem.specs.declared.proc.Todo.{Todo}
use Rattle.std.specs.Option.{option_map_or}
use Rattle.std.specs.Prelude.{List, Option, Some, option_map, slice_get, true, ℕ, ℤ}

-- the postlog of the block that the step leaves, if it leaves one
abbrev pub postlog_wanted : Option Mark → Option Wanted
postlog_wanted o = option_map (λ m. wanted.Postlog m.values) o

-- the event of the next step is an item, where this is to do
abbrev pub with_event_of : Program → Plan → Answer → Option ℕ → List Todo → Replaying → Replaying
with_event_of program plan a number todo r =
    option_map_or (λ t. with_item (item.Own (record (described program plan r.proc t a) { number = number })) r)
    (slice_get todo 0) r

-- a synchronization, with its number and the value of its piece
abbrev pub synchronize : Program → Plan → Need → ℕ → ℤ → Replaying → Turn
synchronize program plan need number value r =
    let a = received need value in
    take_unit plan (unit_started need)
    (past_piece (stepped program plan a (with_event program plan a (Some number) r)))

-- a nested interval that was left: its postlog is applied in its place, and the unit after it starts
abbrev pub skip_nested : Program → Plan → Need → ℕ → ℕ → List ℤ → Replaying → Turn
skip_nested program plan need k b values r =
    let after = with_item (item.Nested k b values true) (with_call program plan need r) in
    take_unit plan (Some (unit_past plan r.proc.todo need))
    (past_piece (counted (record after { proc = skipped program plan values r.proc })))
