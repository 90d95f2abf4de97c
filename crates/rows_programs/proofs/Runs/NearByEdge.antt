-- shared int x, y; sem s; void f() { x = 4; } process a { f(); V(s); y = 1; print(x); }
use Rattle.ppd_model.specs.Setting.{setting_of}
use Rattle.std.proofs.Common.{◌≡◌, refl}
use Rattle.std.specs.Prelude.{ℕ, zero, suc, pos, true, false, List, [], ◌∷◌, Some, None}
use Rattle.ppd_ast.specs.Term.{terms}
use Rattle.ppd_ast.specs.declared.plan.BlockKind.TheVariants as block
use Rattle.ppd_ast.specs.declared.plan.Plan.{Plan}
use Rattle.ppd_ast.specs.declared.plan.Start.TheVariants as start
use Rattle.ppd_ast.specs.declared.program.Expr.TheVariants as expr
use Rattle.ppd_ast.specs.declared.program.Kind.TheVariants as kind
use Rattle.ppd_ast.specs.declared.program.Program.{Program}
use Rattle.ppd_ast.specs.declared.program.Target.TheVariants as target
use Rattle.ppd_ast.specs.declared.status.Status.TheVariants as status
use Rattle.ppd_ast.specs.declared.status.SyncKind.TheVariants as sync
use Rattle.ppd_model.specs.declared.entry.Entry.TheVariants as entry
use Rattle.ppd_sem.specs.declared.event.Spot.TheVariants.{Shared}
use Rattle.ppd_model.specs.declared.flow.Item.TheVariants.{Own, Nested}
use Rattle.ppd_model.specs.declared.flow.Origin.TheVariants.{Entry, Item as ItemAt}
use Rattle.ppd_model.specs.declared.trace.TracedEvent.{TracedEvent}
use Rattle.ppd_model.specs.World.{enabled}
use Rattle.ppd_model.specs.Schedule.{IsWhole}
use Rattle.ppd_model.specs.declared.tracing.Story.{Story}
use Rattle.ppd_model.specs.Story.{story, told}
use Rattle.ppd_model.specs.FullTrace.{full_trace}
use Rattle.ppd_model.specs.Record.{accesses, sync_record}
use Rattle.ppd_model.specs.Races.{races}
use Rattle.ppd_model.specs.Logs.{close, closed_logs}
use Rattle.ppd_model.specs.Intervals.{items}
use Rattle.ppd_model.specs.FlowbackEdges.{last}
use Rattle.rows_programs.proofs.Runs.Tables.{stmt_in, scalar, body_of, block_of, unit_of, access, event, quiet, id, traced, ended, read_from, control_from}
use Rattle.rows_programs.proofs.Runs.Showing.{synced, touched, extent, extents, whys, nears}

abbrev pub program : Program
program = record {
  exprs = expr.Const (pos 4) ∷ expr.Const (pos 1) ∷ expr.Shared 0 ∷ [];
  stmts =
      stmt_in 0 1 36 None (kind.Set (target.Shared 0) 0)
      ∷ stmt_in 0 1 43 None (kind.Return None)
      ∷ stmt_in 1 1 57 None (kind.Call 0 [] None)
      ∷ stmt_in 1 1 62 None (kind.V 0)
      ∷ stmt_in 1 1 68 None (kind.Set (target.Shared 1) 1)
      ∷ stmt_in 1 1 75 None (kind.Print 2)
      ∷ stmt_in 1 1 85 None kind.End ∷ [];
  bodies = body_of 102 false 0 false [] 0 (0 ∷ 1 ∷ []) 0 2 ∷ body_of 97 true 0 false [] 0 (2 ∷ 3 ∷ 4 ∷ 5 ∷ 6 ∷ []) 2 7 ∷ [];
  functions = 1;
  shared = scalar 120 0 ∷ scalar 121 1 ∷ [];
  starts = pos 0 ∷ pos 0 ∷ [];
  sems = record { name = 115 ∷ []; start = 0 } ∷ [];
  chans = [];
}

abbrev pub plan : Plan
plan = record {
  policy = record { leaf = 0; loops = 0 };
  blocks = block_of (block.Function 0) [] [] false ∷ block_of (block.Process 1) [] [] false ∷ [];
  units = unit_of (start.Entry 0) [] ∷ unit_of (start.Entry 1) [] ∷ unit_of (start.After 2) [] ∷ unit_of (start.After 3) (0 ∷ []) ∷ [];
}

abbrev pub schedule : List ℕ
schedule = 0 ∷ 0 ∷ 0 ∷ 0 ∷ 0 ∷ 0 ∷ 0 ∷ 0 ∷ []

abbrev pub the_story : Story
the_story = story (setting_of program plan 100000) schedule

nobody : (p : ℕ) → enabled program plan (told (setting_of program plan 100000) schedule).world p ≡ false
unfolding terms
nobody zero = refl
nobody (suc p) = refl

pub whole : IsWhole (setting_of program plan 100000) schedule
unfolding terms
whole = record { last = (told (setting_of program plan 100000) schedule).world; runs = refl; over = record { nobody = nobody } }

pub ends : (close (setting_of program plan 100000) schedule).ends ≡ ended status.Ended 6 8 (pos 4 ∷ []) ∷ []
unfolding terms
ends = refl

abbrev pub events_a : List TracedEvent
events_a =
    traced (quiet 2) [] None None
    ∷ traced (event 0 [] (access (Shared 0) (pos 4) ∷ []) None None None) [] (Some (id 0 0)) None
    ∷ traced (quiet 1) [] (Some (id 0 0)) None
    ∷ traced (event 3 [] [] None (Some 1) None) [] None None
    ∷ traced (event 4 [] (access (Shared 1) (pos 1) ∷ []) None None None) [] None None
    ∷ traced (event 5 (access (Shared 0) (pos 4) ∷ []) [] (Some (pos 4)) None None) (Some (id 0 1) ∷ []) None None
    ∷ traced (quiet 6) [] None None ∷ []

pub trace : full_trace (setting_of program plan 100000) (story (setting_of program plan 100000) schedule) ≡ record { events = events_a ∷ [] }
unfolding terms
trace = refl

pub synchronizations : sync_record (setting_of program plan 100000) schedule ≡ (synced sync.V 0 1 ∷ []) ∷ []
unfolding terms
synchronizations = refl

pub accesses_a : accesses the_story 0 ≡ touched 0 0 true ∷ touched 1 1 true ∷ touched 1 0 false ∷ []
unfolding terms
accesses_a = refl

pub race_list : races (setting_of program plan 100000) schedule ≡ []
unfolding terms
race_list = refl

pub log : (closed_logs (setting_of program plan 100000) schedule).lists ≡
    (entry.Prelog 1 [] ∷ entry.Unit 1 [] ∷ entry.Prelog 0 [] ∷ entry.Unit 0 [] ∷ entry.Postlog 0 [] ∷ entry.Unit 2 [] ∷ entry.Sync sync.V 0 1 (pos 0) [] (0 ∷ []) ∷ entry.Unit 3 (pos 4 ∷ []) ∷ entry.Postlog 1 [] ∷ entry.End status.Ended 3 (0 ∷ []) (1 ∷ []) ∷ []) ∷ []
unfolding terms
log = refl

pub extents_a : extents (setting_of program plan 100000) the_story 0 ≡
    extent 1 [] 0 (Some 7) 6
    ∷ extent 0 (0 ∷ []) 0 (Some 2) 2 ∷ []
unfolding terms
extents_a = refl

pub open_a_0 : items (setting_of program plan 100000) the_story 0 0 ≡
    Some (Own (quiet 2)
    ∷ Nested 1 0 [] true
    ∷ Own (event 3 [] [] None (Some 1) None)
    ∷ Own (event 4 [] (access (Shared 1) (pos 1) ∷ []) None None None)
    ∷ Own (event 5 (access (Shared 0) (pos 4) ∷ []) [] (Some (pos 4)) None None)
    ∷ Own (quiet 6) ∷ [])
unfolding terms
open_a_0 = refl

pub open_a_1 : items (setting_of program plan 100000) the_story 0 1 ≡
    Some (Own (event 0 [] (access (Shared 0) (pos 4) ∷ []) None None None)
    ∷ Own (quiet 1) ∷ [])
unfolding terms
open_a_1 = refl

pub whys_a_0 : whys (setting_of program plan 100000) the_story 0 0 7 ≡
    Some (control_from Entry ∷ [])
    ∷ Some (control_from (ItemAt 0 0 0) ∷ [])
    ∷ Some (control_from Entry ∷ [])
    ∷ Some (control_from Entry ∷ [])
    ∷ Some (read_from (Shared 0) (pos 4) (ItemAt 0 1 0) ∷ control_from Entry ∷ [])
    ∷ Some (control_from Entry ∷ [])
    ∷ None ∷ []
unfolding terms
whys_a_0 = refl

pub whys_a_1 : whys (setting_of program plan 100000) the_story 0 1 3 ≡
    Some (control_from (ItemAt 0 0 0) ∷ [])
    ∷ Some (control_from (ItemAt 0 0 0) ∷ [])
    ∷ None ∷ []
unfolding terms
whys_a_1 = refl

-- the call's interval is not near to what lies in the next edge, but to the item that reads from it
pub nears_a_0 : nears (setting_of program plan 100000) the_story 0 0 6 ≡ 8 ∷ 8 ∷ 8 ∷ 6 ∷ 8 ∷ 6 ∷ []
unfolding terms
nears_a_0 = refl

pub nears_a_1 : nears (setting_of program plan 100000) the_story 0 1 2 ≡ 8 ∷ 8 ∷ []
unfolding terms
nears_a_1 = refl

pub final_x : last (setting_of program plan 100000) the_story 0 ≡ (pos 4, ItemAt 0 1 0)
unfolding terms
final_x = refl

pub final_y : last (setting_of program plan 100000) the_story 1 ≡ (pos 1, ItemAt 0 0 3)
unfolding terms
final_y = refl
