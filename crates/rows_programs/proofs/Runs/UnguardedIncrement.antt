-- shared int x; process a { x = x + 1; } process b { x = x + 1; }
use Rattle.ppd_model.specs.Setting.{setting_of}
use Rattle.std.proofs.Common.{◌≡◌, refl}
use Rattle.std.specs.Prelude.{ℕ, zero, suc, pos, true, false, List, [], ◌∷◌, Some, None}
use Rattle.ppd_ast.specs.Term.{terms}
use Rattle.ppd_ast.specs.declared.plan.BlockKind.TheVariants as block
use Rattle.ppd_ast.specs.declared.plan.Plan.{Plan}
use Rattle.ppd_ast.specs.declared.plan.Start.TheVariants as start
use Rattle.ppd_ast.specs.declared.program.Expr.TheVariants as expr
use Rattle.ppd_ast.specs.declared.program.Kind.TheVariants as kind
use Rattle.ppd_ast.specs.declared.program.Op.TheVariants as op
use Rattle.ppd_ast.specs.declared.program.Program.{Program}
use Rattle.ppd_ast.specs.declared.program.Target.TheVariants as target
use Rattle.ppd_ast.specs.declared.status.Status.TheVariants as status
use Rattle.ppd_model.specs.declared.entry.Entry.TheVariants as entry
use Rattle.ppd_sem.specs.declared.event.Spot.TheVariants.{Shared}
use Rattle.ppd_model.specs.declared.flow.Item.TheVariants.{Own}
use Rattle.ppd_model.specs.declared.flow.Origin.TheVariants.{Initial, Entry, Item as ItemAt}
use Rattle.ppd_model.specs.declared.graph.RaceKind.TheVariants.{ReadWrite, WriteRead, WriteWrite}
use Rattle.ppd_model.specs.declared.trace.TracedEvent.{TracedEvent}
use Rattle.ppd_model.specs.World.{enabled}
use Rattle.ppd_model.specs.Schedule.{IsWhole}
use Rattle.ppd_model.specs.declared.tracing.Story.{Story}
use Rattle.ppd_model.specs.Story.{story, told}
use Rattle.ppd_model.specs.FullTrace.{full_trace}
use Rattle.ppd_model.specs.Record.{accesses, sync_record}
use Rattle.ppd_model.specs.Races.{race, races}
use Rattle.ppd_model.specs.Logs.{close, closed_logs}
use Rattle.ppd_model.specs.Intervals.{items}
use Rattle.ppd_model.specs.FlowbackEdges.{last}
use Rattle.rows_programs.proofs.Runs.Tables.{stmt_in, scalar, body_of, block_of, unit_of, access, event, quiet, id, traced, ended, read_from, control_from}
use Rattle.rows_programs.proofs.Runs.Showing.{touched, extent, extents, whys, nears}
use Rattle.rows_programs.proofs.Runs.Every.{outcome, every_whole}

abbrev pub program : Program
program = record {
  exprs = expr.Shared 0 ∷ expr.Const (pos 1) ∷ expr.Two op.Add 0 1 ∷ expr.Shared 0 ∷ expr.Const (pos 1) ∷ expr.Two op.Add 3 4 ∷ [];
  stmts =
      stmt_in 0 1 27 None (kind.Set (target.Shared 0) 2)
      ∷ stmt_in 0 1 38 None kind.End
      ∷ stmt_in 1 1 52 None (kind.Set (target.Shared 0) 5)
      ∷ stmt_in 1 1 63 None kind.End ∷ [];
  bodies = body_of 97 true 0 false [] 0 (0 ∷ 1 ∷ []) 0 2 ∷ body_of 98 true 0 false [] 0 (2 ∷ 3 ∷ []) 2 4 ∷ [];
  functions = 0;
  shared = scalar 120 0 ∷ [];
  starts = pos 0 ∷ [];
  sems = [];
  chans = [];
}

abbrev pub plan : Plan
plan = record {
  policy = record { leaf = 0; loops = 0 };
  blocks = block_of (block.Process 0) [] [] false ∷ block_of (block.Process 1) [] [] false ∷ [];
  units = unit_of (start.Entry 0) (0 ∷ []) ∷ unit_of (start.Entry 1) (0 ∷ []) ∷ [];
}

abbrev pub first_a : List ℕ
first_a = 0 ∷ 0 ∷ 0 ∷ 1 ∷ 1 ∷ 1 ∷ []

abbrev pub story_first_a : Story
story_first_a = story (setting_of program plan 100000) first_a

nobody_first_a : (p : ℕ) → enabled program plan (told (setting_of program plan 100000) first_a).world p ≡ false
unfolding terms
nobody_first_a zero = refl
nobody_first_a (suc zero) = refl
nobody_first_a (suc (suc p)) = refl

pub whole_first_a : IsWhole (setting_of program plan 100000) first_a
unfolding terms
whole_first_a = record { last = (told (setting_of program plan 100000) first_a).world; runs = refl; over = record { nobody = nobody_first_a } }

pub ends_first_a : (close (setting_of program plan 100000) first_a).ends ≡ ended status.Ended 1 3 [] ∷ ended status.Ended 3 3 [] ∷ []
unfolding terms
ends_first_a = refl

abbrev pub events_a_first_a : List TracedEvent
events_a_first_a =
    traced (event 0 (access (Shared 0) (pos 0) ∷ []) (access (Shared 0) (pos 1) ∷ []) None None None) (None ∷ []) None None
    ∷ traced (quiet 1) [] None None ∷ []

abbrev pub events_b_first_a : List TracedEvent
events_b_first_a =
    traced (event 2 (access (Shared 0) (pos 1) ∷ []) (access (Shared 0) (pos 2) ∷ []) None None None) (Some (id 0 0) ∷ []) None None
    ∷ traced (quiet 3) [] None None ∷ []

pub trace_first_a : full_trace (setting_of program plan 100000) (story (setting_of program plan 100000) first_a) ≡ record { events = events_a_first_a ∷ events_b_first_a ∷ [] }
unfolding terms
trace_first_a = refl

pub synchronizations_first_a : sync_record (setting_of program plan 100000) first_a ≡ [] ∷ [] ∷ []
unfolding terms
synchronizations_first_a = refl

pub accesses_a_first_a : accesses story_first_a 0 ≡ touched 0 0 false ∷ touched 0 0 true ∷ []
unfolding terms
accesses_a_first_a = refl

pub accesses_b_first_a : accesses story_first_a 1 ≡ touched 0 0 false ∷ touched 0 0 true ∷ []
unfolding terms
accesses_b_first_a = refl

pub races_first_a : races (setting_of program plan 100000) first_a ≡ race 0 0 1 0 0 ReadWrite ∷ race 0 0 1 0 0 WriteRead ∷ race 0 0 1 0 0 WriteWrite ∷ []
unfolding terms
races_first_a = refl

pub logs_first_a : (closed_logs (setting_of program plan 100000) first_a).lists ≡
    (entry.Prelog 0 [] ∷ entry.Unit 0 (pos 0 ∷ []) ∷ entry.Postlog 0 [] ∷ entry.End status.Ended 2 (0 ∷ []) (0 ∷ []) ∷ [])
    ∷ (entry.Prelog 1 [] ∷ entry.Unit 1 (pos 0 ∷ []) ∷ entry.Postlog 1 [] ∷ entry.End status.Ended 2 (0 ∷ []) (0 ∷ []) ∷ []) ∷ []
unfolding terms
logs_first_a = refl

pub extents_a_first_a : extents (setting_of program plan 100000) story_first_a 0 ≡
    extent 0 [] 0 (Some 2) 3 ∷ []
unfolding terms
extents_a_first_a = refl

pub extents_b_first_a : extents (setting_of program plan 100000) story_first_a 1 ≡
    extent 1 [] 0 (Some 2) 3 ∷ []
unfolding terms
extents_b_first_a = refl

pub open_a_0_first_a : items (setting_of program plan 100000) story_first_a 0 0 ≡
    Some (Own (event 0 (access (Shared 0) (pos 0) ∷ []) (access (Shared 0) (pos 1) ∷ []) None None None)
    ∷ Own (quiet 1) ∷ [])
unfolding terms
open_a_0_first_a = refl

pub open_b_0_first_a : items (setting_of program plan 100000) story_first_a 1 0 ≡
    Some (Own (event 2 (access (Shared 0) (pos 1) ∷ []) (access (Shared 0) (pos 2) ∷ []) None None None)
    ∷ Own (quiet 3) ∷ [])
unfolding terms
open_b_0_first_a = refl

pub whys_a_0_first_a : whys (setting_of program plan 100000) story_first_a 0 0 3 ≡
    Some (read_from (Shared 0) (pos 0) Initial ∷ control_from Entry ∷ [])
    ∷ Some (control_from Entry ∷ [])
    ∷ None ∷ []
unfolding terms
whys_a_0_first_a = refl

pub whys_b_0_first_a : whys (setting_of program plan 100000) story_first_a 1 0 3 ≡
    Some (read_from (Shared 0) (pos 1) (ItemAt 0 0 0) ∷ control_from Entry ∷ [])
    ∷ Some (control_from Entry ∷ [])
    ∷ None ∷ []
unfolding terms
whys_b_0_first_a = refl

pub nears_a_0_first_a : nears (setting_of program plan 100000) story_first_a 0 0 2 ≡ 3 ∷ 3 ∷ []
unfolding terms
nears_a_0_first_a = refl

pub nears_b_0_first_a : nears (setting_of program plan 100000) story_first_a 1 0 2 ≡ 6 ∷ 3 ∷ []
unfolding terms
nears_b_0_first_a = refl

pub final_x_first_a : last (setting_of program plan 100000) story_first_a 0 ≡ (pos 2, ItemAt 1 0 0)
unfolding terms
final_x_first_a = refl

abbrev pub first_b : List ℕ
first_b = 1 ∷ 1 ∷ 1 ∷ 0 ∷ 0 ∷ 0 ∷ []

abbrev pub story_first_b : Story
story_first_b = story (setting_of program plan 100000) first_b

nobody_first_b : (p : ℕ) → enabled program plan (told (setting_of program plan 100000) first_b).world p ≡ false
unfolding terms
nobody_first_b zero = refl
nobody_first_b (suc zero) = refl
nobody_first_b (suc (suc p)) = refl

pub whole_first_b : IsWhole (setting_of program plan 100000) first_b
unfolding terms
whole_first_b = record { last = (told (setting_of program plan 100000) first_b).world; runs = refl; over = record { nobody = nobody_first_b } }

pub ends_first_b : (close (setting_of program plan 100000) first_b).ends ≡ ended status.Ended 1 3 [] ∷ ended status.Ended 3 3 [] ∷ []
unfolding terms
ends_first_b = refl

abbrev pub events_a_first_b : List TracedEvent
events_a_first_b =
    traced (event 0 (access (Shared 0) (pos 1) ∷ []) (access (Shared 0) (pos 2) ∷ []) None None None) (Some (id 1 0) ∷ []) None None
    ∷ traced (quiet 1) [] None None ∷ []

abbrev pub events_b_first_b : List TracedEvent
events_b_first_b =
    traced (event 2 (access (Shared 0) (pos 0) ∷ []) (access (Shared 0) (pos 1) ∷ []) None None None) (None ∷ []) None None
    ∷ traced (quiet 3) [] None None ∷ []

pub trace_first_b : full_trace (setting_of program plan 100000) (story (setting_of program plan 100000) first_b) ≡ record { events = events_a_first_b ∷ events_b_first_b ∷ [] }
unfolding terms
trace_first_b = refl

pub synchronizations_first_b : sync_record (setting_of program plan 100000) first_b ≡ [] ∷ [] ∷ []
unfolding terms
synchronizations_first_b = refl

pub accesses_a_first_b : accesses story_first_b 0 ≡ touched 0 0 false ∷ touched 0 0 true ∷ []
unfolding terms
accesses_a_first_b = refl

pub accesses_b_first_b : accesses story_first_b 1 ≡ touched 0 0 false ∷ touched 0 0 true ∷ []
unfolding terms
accesses_b_first_b = refl

pub races_first_b : races (setting_of program plan 100000) first_b ≡ race 0 0 1 0 0 ReadWrite ∷ race 0 0 1 0 0 WriteRead ∷ race 0 0 1 0 0 WriteWrite ∷ []
unfolding terms
races_first_b = refl

pub logs_first_b : (closed_logs (setting_of program plan 100000) first_b).lists ≡
    (entry.Prelog 0 [] ∷ entry.Unit 0 (pos 0 ∷ []) ∷ entry.Postlog 0 [] ∷ entry.End status.Ended 2 (0 ∷ []) (0 ∷ []) ∷ [])
    ∷ (entry.Prelog 1 [] ∷ entry.Unit 1 (pos 0 ∷ []) ∷ entry.Postlog 1 [] ∷ entry.End status.Ended 2 (0 ∷ []) (0 ∷ []) ∷ []) ∷ []
unfolding terms
logs_first_b = refl

pub extents_a_first_b : extents (setting_of program plan 100000) story_first_b 0 ≡
    extent 0 [] 0 (Some 2) 3 ∷ []
unfolding terms
extents_a_first_b = refl

pub extents_b_first_b : extents (setting_of program plan 100000) story_first_b 1 ≡
    extent 1 [] 0 (Some 2) 3 ∷ []
unfolding terms
extents_b_first_b = refl

pub open_a_0_first_b : items (setting_of program plan 100000) story_first_b 0 0 ≡
    Some (Own (event 0 (access (Shared 0) (pos 1) ∷ []) (access (Shared 0) (pos 2) ∷ []) None None None)
    ∷ Own (quiet 1) ∷ [])
unfolding terms
open_a_0_first_b = refl

pub open_b_0_first_b : items (setting_of program plan 100000) story_first_b 1 0 ≡
    Some (Own (event 2 (access (Shared 0) (pos 0) ∷ []) (access (Shared 0) (pos 1) ∷ []) None None None)
    ∷ Own (quiet 3) ∷ [])
unfolding terms
open_b_0_first_b = refl

pub whys_a_0_first_b : whys (setting_of program plan 100000) story_first_b 0 0 3 ≡
    Some (read_from (Shared 0) (pos 1) (ItemAt 1 0 0) ∷ control_from Entry ∷ [])
    ∷ Some (control_from Entry ∷ [])
    ∷ None ∷ []
unfolding terms
whys_a_0_first_b = refl

pub whys_b_0_first_b : whys (setting_of program plan 100000) story_first_b 1 0 3 ≡
    Some (read_from (Shared 0) (pos 0) Initial ∷ control_from Entry ∷ [])
    ∷ Some (control_from Entry ∷ [])
    ∷ None ∷ []
unfolding terms
whys_b_0_first_b = refl

pub nears_a_0_first_b : nears (setting_of program plan 100000) story_first_b 0 0 2 ≡ 6 ∷ 3 ∷ []
unfolding terms
nears_a_0_first_b = refl

pub nears_b_0_first_b : nears (setting_of program plan 100000) story_first_b 1 0 2 ≡ 3 ∷ 3 ∷ []
unfolding terms
nears_b_0_first_b = refl

pub final_x_first_b : last (setting_of program plan 100000) story_first_b 0 ≡ (pos 2, ItemAt 0 0 0)
unfolding terms
final_x_first_b = refl

abbrev pub in_turns : List ℕ
in_turns = 0 ∷ 1 ∷ 0 ∷ 1 ∷ 0 ∷ 1 ∷ []

abbrev pub story_in_turns : Story
story_in_turns = story (setting_of program plan 100000) in_turns

nobody_in_turns : (p : ℕ) → enabled program plan (told (setting_of program plan 100000) in_turns).world p ≡ false
unfolding terms
nobody_in_turns zero = refl
nobody_in_turns (suc zero) = refl
nobody_in_turns (suc (suc p)) = refl

pub whole_in_turns : IsWhole (setting_of program plan 100000) in_turns
unfolding terms
whole_in_turns = record { last = (told (setting_of program plan 100000) in_turns).world; runs = refl; over = record { nobody = nobody_in_turns } }

pub ends_in_turns : (close (setting_of program plan 100000) in_turns).ends ≡ ended status.Ended 1 3 [] ∷ ended status.Ended 3 3 [] ∷ []
unfolding terms
ends_in_turns = refl

abbrev pub events_a_in_turns : List TracedEvent
events_a_in_turns =
    traced (event 0 (access (Shared 0) (pos 0) ∷ []) (access (Shared 0) (pos 1) ∷ []) None None None) (None ∷ []) None None
    ∷ traced (quiet 1) [] None None ∷ []

abbrev pub events_b_in_turns : List TracedEvent
events_b_in_turns =
    traced (event 2 (access (Shared 0) (pos 0) ∷ []) (access (Shared 0) (pos 1) ∷ []) None None None) (None ∷ []) None None
    ∷ traced (quiet 3) [] None None ∷ []

pub trace_in_turns : full_trace (setting_of program plan 100000) (story (setting_of program plan 100000) in_turns) ≡ record { events = events_a_in_turns ∷ events_b_in_turns ∷ [] }
unfolding terms
trace_in_turns = refl

pub synchronizations_in_turns : sync_record (setting_of program plan 100000) in_turns ≡ [] ∷ [] ∷ []
unfolding terms
synchronizations_in_turns = refl

pub accesses_a_in_turns : accesses story_in_turns 0 ≡ touched 0 0 false ∷ touched 0 0 true ∷ []
unfolding terms
accesses_a_in_turns = refl

pub accesses_b_in_turns : accesses story_in_turns 1 ≡ touched 0 0 false ∷ touched 0 0 true ∷ []
unfolding terms
accesses_b_in_turns = refl

pub races_in_turns : races (setting_of program plan 100000) in_turns ≡ race 0 0 1 0 0 ReadWrite ∷ race 0 0 1 0 0 WriteRead ∷ race 0 0 1 0 0 WriteWrite ∷ []
unfolding terms
races_in_turns = refl

pub logs_in_turns : (closed_logs (setting_of program plan 100000) in_turns).lists ≡
    (entry.Prelog 0 [] ∷ entry.Unit 0 (pos 0 ∷ []) ∷ entry.Postlog 0 [] ∷ entry.End status.Ended 2 (0 ∷ []) (0 ∷ []) ∷ [])
    ∷ (entry.Prelog 1 [] ∷ entry.Unit 1 (pos 0 ∷ []) ∷ entry.Postlog 1 [] ∷ entry.End status.Ended 2 (0 ∷ []) (0 ∷ []) ∷ []) ∷ []
unfolding terms
logs_in_turns = refl

pub extents_a_in_turns : extents (setting_of program plan 100000) story_in_turns 0 ≡
    extent 0 [] 0 (Some 2) 3 ∷ []
unfolding terms
extents_a_in_turns = refl

pub extents_b_in_turns : extents (setting_of program plan 100000) story_in_turns 1 ≡
    extent 1 [] 0 (Some 2) 3 ∷ []
unfolding terms
extents_b_in_turns = refl

pub open_a_0_in_turns : items (setting_of program plan 100000) story_in_turns 0 0 ≡
    Some (Own (event 0 (access (Shared 0) (pos 0) ∷ []) (access (Shared 0) (pos 1) ∷ []) None None None)
    ∷ Own (quiet 1) ∷ [])
unfolding terms
open_a_0_in_turns = refl

pub open_b_0_in_turns : items (setting_of program plan 100000) story_in_turns 1 0 ≡
    Some (Own (event 2 (access (Shared 0) (pos 0) ∷ []) (access (Shared 0) (pos 1) ∷ []) None None None)
    ∷ Own (quiet 3) ∷ [])
unfolding terms
open_b_0_in_turns = refl

pub whys_a_0_in_turns : whys (setting_of program plan 100000) story_in_turns 0 0 3 ≡
    Some (read_from (Shared 0) (pos 0) Initial ∷ control_from Entry ∷ [])
    ∷ Some (control_from Entry ∷ [])
    ∷ None ∷ []
unfolding terms
whys_a_0_in_turns = refl

pub whys_b_0_in_turns : whys (setting_of program plan 100000) story_in_turns 1 0 3 ≡
    Some (read_from (Shared 0) (pos 0) Initial ∷ control_from Entry ∷ [])
    ∷ Some (control_from Entry ∷ [])
    ∷ None ∷ []
unfolding terms
whys_b_0_in_turns = refl

pub nears_a_0_in_turns : nears (setting_of program plan 100000) story_in_turns 0 0 2 ≡ 3 ∷ 3 ∷ []
unfolding terms
nears_a_0_in_turns = refl

pub nears_b_0_in_turns : nears (setting_of program plan 100000) story_in_turns 1 0 2 ≡ 3 ∷ 3 ∷ []
unfolding terms
nears_b_0_in_turns = refl

pub final_x_in_turns : last (setting_of program plan 100000) story_in_turns 0 ≡ (pos 1, ItemAt 1 0 0)
unfolding terms
final_x_in_turns = refl

-- every schedule ends so, with these races
pub every : (h : List ℕ) → IsWhole (setting_of program plan 100000) h → outcome (setting_of program plan 100000) h ≡ (ended status.Ended 1 3 [] ∷ ended status.Ended 3 3 [] ∷ [], race 0 0 1 0 0 ReadWrite ∷ race 0 0 1 0 0 WriteRead ∷ race 0 0 1 0 0 WriteWrite ∷ [])
unfolding terms
every h whole = every_whole program plan 100000 7 20 (outcome (setting_of program plan 100000)) _ refl refl h whole
