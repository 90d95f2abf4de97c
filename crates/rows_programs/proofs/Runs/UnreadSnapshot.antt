-- shared int x, y; sem s = 1; process p { P(s); if (y) { print(x); } } process q { x = 5; }
use Rattle.ppd_model.specs.Setting.{setting_of}
use Rattle.std.proofs.Common.{◌≡◌, refl}
use Rattle.std.specs.Prelude.{ℕ, zero, suc, pos, true, false, List, [], ◌∷◌, Some, None}
use Rattle.ppd_ast.specs.Term.{terms}
use Rattle.ppd_ast.specs.declared.plan.BlockKind.TheVariants as block
use Rattle.ppd_ast.specs.declared.plan.Plan.{Plan}
use Rattle.ppd_ast.specs.declared.plan.Start.TheVariants as start
use Rattle.ppd_ast.specs.declared.program.Expr.TheVariants as expr
use Rattle.ppd_ast.specs.declared.program.Kind.TheVariants as kind
use Rattle.ppd_ast.specs.declared.program.Program.{Program}
use Rattle.ppd_ast.specs.declared.program.Target.TheVariants as target
use Rattle.ppd_ast.specs.declared.status.Status.TheVariants as status
use Rattle.ppd_ast.specs.declared.status.SyncKind.TheVariants as sync
use Rattle.ppd_model.specs.declared.entry.Entry.TheVariants as entry
use Rattle.ppd_sem.specs.declared.event.Spot.TheVariants.{Shared}
use Rattle.ppd_model.specs.declared.flow.Item.TheVariants.{Own}
use Rattle.ppd_model.specs.declared.flow.Origin.TheVariants.{Initial, Entry, Item as ItemAt}
use Rattle.ppd_model.specs.declared.trace.TracedEvent.{TracedEvent}
use Rattle.ppd_model.specs.World.{enabled}
use Rattle.ppd_model.specs.Schedule.{IsWhole}
use Rattle.ppd_model.specs.declared.tracing.Story.{Story}
use Rattle.ppd_model.specs.Story.{story, told}
use Rattle.ppd_model.specs.FullTrace.{full_trace}
use Rattle.ppd_model.specs.Record.{accesses, sync_record}
use Rattle.ppd_model.specs.Races.{races}
use Rattle.ppd_model.specs.Agreement.{Agree}
use Rattle.ppd_model.specs.Logs.{close, closed_logs}
use Rattle.ppd_model.specs.Intervals.{items}
use Rattle.ppd_model.specs.FlowbackEdges.{last}
use Rattle.rows_programs.proofs.Runs.Tables.{stmt_in, scalar, body_of, block_of, unit_of, access, event, quiet, traced, ended, read_from, sync_from, control_from}
use Rattle.rows_programs.proofs.Runs.Showing.{synced, touched, extent, extents, whys, nears}
use Rattle.rows_programs.proofs.Runs.Every.{outcome, every_whole}

abbrev pub program : Program
program = record {
  exprs = expr.Shared 1 ∷ expr.Shared 0 ∷ expr.Const (pos 5) ∷ [];
  stmts =
      stmt_in 0 1 41 None (kind.P 0)
      ∷ stmt_in 0 1 47 None (kind.If 0 (2 ∷ []) [])
      ∷ stmt_in 0 1 56 (Some 1) (kind.Print 1)
      ∷ stmt_in 0 1 68 None kind.End
      ∷ stmt_in 1 1 82 None (kind.Set (target.Shared 0) 2)
      ∷ stmt_in 1 1 89 None kind.End ∷ [];
  bodies = body_of 112 true 0 false [] 0 (0 ∷ 1 ∷ 3 ∷ []) 0 4 ∷ body_of 113 true 0 false [] 0 (4 ∷ 5 ∷ []) 4 6 ∷ [];
  functions = 0;
  shared = scalar 120 0 ∷ scalar 121 1 ∷ [];
  starts = pos 0 ∷ pos 0 ∷ [];
  sems = record { name = 115 ∷ []; start = 1 } ∷ [];
  chans = [];
}

abbrev pub plan : Plan
plan = record {
  policy = record { leaf = 0; loops = 0 };
  blocks = block_of (block.Process 0) [] [] false ∷ block_of (block.Process 1) [] [] false ∷ [];
  units = unit_of (start.Entry 0) [] ∷ unit_of (start.After 0) (0 ∷ 1 ∷ []) ∷ unit_of (start.Entry 1) [] ∷ [];
}

abbrev pub first : List ℕ
first = 0 ∷ 0 ∷ 0 ∷ 0 ∷ 1 ∷ 1 ∷ []

abbrev pub story_first : Story
story_first = story (setting_of program plan 100000) first

nobody_first : (p : ℕ) → enabled program plan (told (setting_of program plan 100000) first).world p ≡ false
unfolding terms
nobody_first zero = refl
nobody_first (suc zero) = refl
nobody_first (suc (suc p)) = refl

pub whole_first : IsWhole (setting_of program plan 100000) first
unfolding terms
whole_first = record { last = (told (setting_of program plan 100000) first).world; runs = refl; over = record { nobody = nobody_first } }

pub ends_first : (close (setting_of program plan 100000) first).ends ≡ ended status.Ended 3 4 [] ∷ ended status.Ended 5 2 [] ∷ []
unfolding terms
ends_first = refl

abbrev pub events_p_first : List TracedEvent
events_p_first =
    traced (event 0 [] [] None (Some 1) None) [] None None
    ∷ traced (event 1 (access (Shared 1) (pos 0) ∷ []) [] (Some (pos 0)) None None) (None ∷ []) None None
    ∷ traced (quiet 3) [] None None ∷ []

abbrev pub events_q_first : List TracedEvent
events_q_first =
    traced (event 4 [] (access (Shared 0) (pos 5) ∷ []) None None None) [] None None
    ∷ traced (quiet 5) [] None None ∷ []

pub trace_first : full_trace (setting_of program plan 100000) (story (setting_of program plan 100000) first) ≡ record { events = events_p_first ∷ events_q_first ∷ [] }
unfolding terms
trace_first = refl

pub synchronizations_first : sync_record (setting_of program plan 100000) first ≡ (synced sync.P 0 1 ∷ []) ∷ [] ∷ []
unfolding terms
synchronizations_first = refl

pub accesses_p_first : accesses story_first 0 ≡ touched 1 1 false ∷ []
unfolding terms
accesses_p_first = refl

pub accesses_q_first : accesses story_first 1 ≡ touched 0 0 true ∷ []
unfolding terms
accesses_q_first = refl

pub races_first : races (setting_of program plan 100000) first ≡ []
unfolding terms
races_first = refl

pub logs_first : (closed_logs (setting_of program plan 100000) first).lists ≡
    (entry.Prelog 0 [] ∷ entry.Unit 0 [] ∷ entry.Sync sync.P 0 1 (pos 0) [] [] ∷ entry.Unit 1 (pos 0 ∷ pos 0 ∷ []) ∷ entry.Postlog 0 [] ∷ entry.End status.Ended 2 (1 ∷ []) [] ∷ [])
    ∷ (entry.Prelog 1 [] ∷ entry.Unit 2 [] ∷ entry.Postlog 1 [] ∷ entry.End status.Ended 1 [] (0 ∷ []) ∷ []) ∷ []
unfolding terms
logs_first = refl

pub extents_p_first : extents (setting_of program plan 100000) story_first 0 ≡
    extent 0 [] 0 (Some 3) 4 ∷ []
unfolding terms
extents_p_first = refl

pub extents_q_first : extents (setting_of program plan 100000) story_first 1 ≡
    extent 1 [] 0 (Some 1) 2 ∷ []
unfolding terms
extents_q_first = refl

pub open_p_0_first : items (setting_of program plan 100000) story_first 0 0 ≡
    Some (Own (event 0 [] [] None (Some 1) None)
    ∷ Own (event 1 (access (Shared 1) (pos 0) ∷ []) [] (Some (pos 0)) None None)
    ∷ Own (quiet 3) ∷ [])
unfolding terms
open_p_0_first = refl

pub open_q_0_first : items (setting_of program plan 100000) story_first 1 0 ≡
    Some (Own (event 4 [] (access (Shared 0) (pos 5) ∷ []) None None None)
    ∷ Own (quiet 5) ∷ [])
unfolding terms
open_q_0_first = refl

pub whys_p_0_first : whys (setting_of program plan 100000) story_first 0 0 4 ≡
    Some (sync_from Initial ∷ control_from Entry ∷ [])
    ∷ Some (read_from (Shared 1) (pos 0) Initial ∷ control_from Entry ∷ [])
    ∷ Some (control_from Entry ∷ [])
    ∷ None ∷ []
unfolding terms
whys_p_0_first = refl

pub whys_q_0_first : whys (setting_of program plan 100000) story_first 1 0 3 ≡
    Some (control_from Entry ∷ [])
    ∷ Some (control_from Entry ∷ [])
    ∷ None ∷ []
unfolding terms
whys_q_0_first = refl

pub nears_p_0_first : nears (setting_of program plan 100000) story_first 0 0 3 ≡ 4 ∷ 4 ∷ 4 ∷ []
unfolding terms
nears_p_0_first = refl

pub nears_q_0_first : nears (setting_of program plan 100000) story_first 1 0 2 ≡ 2 ∷ 2 ∷ []
unfolding terms
nears_q_0_first = refl

pub final_x_first : last (setting_of program plan 100000) story_first 0 ≡ (pos 5, ItemAt 1 0 0)
unfolding terms
final_x_first = refl

pub final_y_first : last (setting_of program plan 100000) story_first 1 ≡ (pos 0, Initial)
unfolding terms
final_y_first = refl

abbrev pub second : List ℕ
second = 1 ∷ 1 ∷ 0 ∷ 0 ∷ 0 ∷ 0 ∷ []

abbrev pub story_second : Story
story_second = story (setting_of program plan 100000) second

nobody_second : (p : ℕ) → enabled program plan (told (setting_of program plan 100000) second).world p ≡ false
unfolding terms
nobody_second zero = refl
nobody_second (suc zero) = refl
nobody_second (suc (suc p)) = refl

pub whole_second : IsWhole (setting_of program plan 100000) second
unfolding terms
whole_second = record { last = (told (setting_of program plan 100000) second).world; runs = refl; over = record { nobody = nobody_second } }

pub ends_second : (close (setting_of program plan 100000) second).ends ≡ ended status.Ended 3 4 [] ∷ ended status.Ended 5 2 [] ∷ []
unfolding terms
ends_second = refl

abbrev pub events_p_second : List TracedEvent
events_p_second =
    traced (event 0 [] [] None (Some 1) None) [] None None
    ∷ traced (event 1 (access (Shared 1) (pos 0) ∷ []) [] (Some (pos 0)) None None) (None ∷ []) None None
    ∷ traced (quiet 3) [] None None ∷ []

abbrev pub events_q_second : List TracedEvent
events_q_second =
    traced (event 4 [] (access (Shared 0) (pos 5) ∷ []) None None None) [] None None
    ∷ traced (quiet 5) [] None None ∷ []

pub trace_second : full_trace (setting_of program plan 100000) (story (setting_of program plan 100000) second) ≡ record { events = events_p_second ∷ events_q_second ∷ [] }
unfolding terms
trace_second = refl

pub synchronizations_second : sync_record (setting_of program plan 100000) second ≡ (synced sync.P 0 1 ∷ []) ∷ [] ∷ []
unfolding terms
synchronizations_second = refl

pub accesses_p_second : accesses story_second 0 ≡ touched 1 1 false ∷ []
unfolding terms
accesses_p_second = refl

pub accesses_q_second : accesses story_second 1 ≡ touched 0 0 true ∷ []
unfolding terms
accesses_q_second = refl

pub races_second : races (setting_of program plan 100000) second ≡ []
unfolding terms
races_second = refl

-- unit 1 has another x than in the first schedule, and nobody reads it
pub logs_second : (closed_logs (setting_of program plan 100000) second).lists ≡
    (entry.Prelog 0 [] ∷ entry.Unit 0 [] ∷ entry.Sync sync.P 0 1 (pos 0) [] [] ∷ entry.Unit 1 (pos 5 ∷ pos 0 ∷ []) ∷ entry.Postlog 0 [] ∷ entry.End status.Ended 2 (1 ∷ []) [] ∷ [])
    ∷ (entry.Prelog 1 [] ∷ entry.Unit 2 [] ∷ entry.Postlog 1 [] ∷ entry.End status.Ended 1 [] (0 ∷ []) ∷ []) ∷ []
unfolding terms
logs_second = refl

pub extents_p_second : extents (setting_of program plan 100000) story_second 0 ≡
    extent 0 [] 0 (Some 3) 4 ∷ []
unfolding terms
extents_p_second = refl

pub extents_q_second : extents (setting_of program plan 100000) story_second 1 ≡
    extent 1 [] 0 (Some 1) 2 ∷ []
unfolding terms
extents_q_second = refl

pub open_p_0_second : items (setting_of program plan 100000) story_second 0 0 ≡
    Some (Own (event 0 [] [] None (Some 1) None)
    ∷ Own (event 1 (access (Shared 1) (pos 0) ∷ []) [] (Some (pos 0)) None None)
    ∷ Own (quiet 3) ∷ [])
unfolding terms
open_p_0_second = refl

pub open_q_0_second : items (setting_of program plan 100000) story_second 1 0 ≡
    Some (Own (event 4 [] (access (Shared 0) (pos 5) ∷ []) None None None)
    ∷ Own (quiet 5) ∷ [])
unfolding terms
open_q_0_second = refl

pub whys_p_0_second : whys (setting_of program plan 100000) story_second 0 0 4 ≡
    Some (sync_from Initial ∷ control_from Entry ∷ [])
    ∷ Some (read_from (Shared 1) (pos 0) Initial ∷ control_from Entry ∷ [])
    ∷ Some (control_from Entry ∷ [])
    ∷ None ∷ []
unfolding terms
whys_p_0_second = refl

pub whys_q_0_second : whys (setting_of program plan 100000) story_second 1 0 3 ≡
    Some (control_from Entry ∷ [])
    ∷ Some (control_from Entry ∷ [])
    ∷ None ∷ []
unfolding terms
whys_q_0_second = refl

pub nears_p_0_second : nears (setting_of program plan 100000) story_second 0 0 3 ≡ 4 ∷ 4 ∷ 4 ∷ []
unfolding terms
nears_p_0_second = refl

pub nears_q_0_second : nears (setting_of program plan 100000) story_second 1 0 2 ≡ 2 ∷ 2 ∷ []
unfolding terms
nears_q_0_second = refl

pub final_x_second : last (setting_of program plan 100000) story_second 0 ≡ (pos 5, ItemAt 1 0 0)
unfolding terms
final_x_second = refl

pub final_y_second : last (setting_of program plan 100000) story_second 1 ≡ (pos 0, Initial)
unfolding terms
final_y_second = refl

-- the schedules agree, and have one story
pub agree : Agree (setting_of program plan 100000) first second
unfolding terms
agree = record { first = whole_first; second = whole_second; records = refl }

pub one_story : story_first ≡ story_second
unfolding terms
one_story = refl

-- every schedule ends so, with these races
pub every : (h : List ℕ) → IsWhole (setting_of program plan 100000) h → outcome (setting_of program plan 100000) h ≡ (ended status.Ended 3 4 [] ∷ ended status.Ended 5 2 [] ∷ [], [])
unfolding terms
every h whole = every_whole program plan 100000 7 15 (outcome (setting_of program plan 100000)) _ refl refl h whole
