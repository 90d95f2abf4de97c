-- shared int x; void f(int k) { x = k; } process a { f(9); print(x); }
use Rattle.ppd_model.specs.Setting.{setting_of}
use Rattle.std.proofs.Common.{◌≡◌, refl}
use Rattle.std.specs.Prelude.{ℕ, zero, suc, pos, true, false, List, [], ◌∷◌, Some, None}
use Rattle.ppd_ast.specs.Term.{terms}
use Rattle.ppd_ast.specs.declared.plan.BlockKind.TheVariants as block
use Rattle.ppd_ast.specs.declared.plan.Plan.{Plan}
use Rattle.ppd_ast.specs.declared.plan.Start.TheVariants as start
use Rattle.ppd_ast.specs.declared.program.Expr.TheVariants as expr
use Rattle.ppd_ast.specs.declared.program.Kind.TheVariants as kind
use Rattle.ppd_ast.specs.declared.program.Program.{Program}
use Rattle.ppd_ast.specs.declared.program.Target.TheVariants as target
use Rattle.ppd_ast.specs.declared.status.Status.TheVariants as status
use Rattle.ppd_model.specs.declared.entry.Entry.TheVariants as entry
use Rattle.ppd_sem.specs.declared.event.Spot.TheVariants.{Local, Shared}
use Rattle.ppd_model.specs.declared.flow.Item.TheVariants.{Own, Nested}
use Rattle.ppd_model.specs.declared.flow.Origin.TheVariants.{Entry, Item as ItemAt}
use Rattle.ppd_model.specs.declared.trace.TracedEvent.{TracedEvent}
use Rattle.ppd_model.specs.World.{enabled}
use Rattle.ppd_model.specs.Schedule.{IsWhole}
use Rattle.ppd_model.specs.declared.tracing.Story.{Story}
use Rattle.ppd_model.specs.Story.{story, told}
use Rattle.ppd_model.specs.FullTrace.{full_trace}
use Rattle.ppd_model.specs.Record.{accesses, sync_record}
use Rattle.ppd_model.specs.Races.{races}
use Rattle.ppd_model.specs.Logs.{close, closed_logs}
use Rattle.ppd_model.specs.Intervals.{items}
use Rattle.ppd_model.specs.FlowbackEdges.{last}
use Rattle.rows_programs.proofs.Runs.Tables.{stmt_in, scalar, body_of, block_of, unit_of, access, event, quiet, id, traced, ended, read_from, control_from}
use Rattle.rows_programs.proofs.Runs.Showing.{touched, extent, extents, whys, nears}

abbrev pub program : Program
program = record {
  exprs = expr.Local 0 ∷ expr.Const (pos 9) ∷ expr.Shared 0 ∷ [];
  stmts =
      stmt_in 0 1 31 None (kind.Set (target.Shared 0) 0)
      ∷ stmt_in 0 1 38 None (kind.Return None)
      ∷ stmt_in 1 1 52 None (kind.Call 0 (1 ∷ []) None)
      ∷ stmt_in 1 1 58 None (kind.Print 2)
      ∷ stmt_in 1 1 68 None kind.End ∷ [];
  bodies = body_of 102 false 1 false (scalar 107 0 ∷ []) 1 (0 ∷ 1 ∷ []) 0 2 ∷ body_of 97 true 0 false [] 0 (2 ∷ 3 ∷ 4 ∷ []) 2 5 ∷ [];
  functions = 1;
  shared = scalar 120 0 ∷ [];
  starts = pos 0 ∷ [];
  sems = [];
  chans = [];
}

-- functions of fewer than 3 statements are no blocks
abbrev pub leaf_plan : Plan
leaf_plan = record {
  policy = record { leaf = 3; loops = 0 };
  blocks = block_of (block.Process 1) [] [] false ∷ [];
  units = unit_of (start.Entry 0) [] ∷ unit_of (start.Entry 1) [] ∷ unit_of (start.After 2) (0 ∷ []) ∷ [];
}

abbrev pub plan : Plan
plan = record {
  policy = record { leaf = 0; loops = 0 };
  blocks = block_of (block.Function 0) (0 ∷ []) [] false ∷ block_of (block.Process 1) [] [] false ∷ [];
  units = unit_of (start.Entry 0) [] ∷ unit_of (start.Entry 1) [] ∷ unit_of (start.After 2) (0 ∷ []) ∷ [];
}

abbrev pub schedule : List ℕ
schedule = 0 ∷ 0 ∷ 0 ∷ 0 ∷ 0 ∷ 0 ∷ []

abbrev pub leaf_story : Story
leaf_story = story (setting_of program leaf_plan 100000) schedule

nobody_leaf : (p : ℕ) → enabled program leaf_plan (told (setting_of program leaf_plan 100000) schedule).world p ≡ false
unfolding terms
nobody_leaf zero = refl
nobody_leaf (suc p) = refl

pub whole_leaf : IsWhole (setting_of program leaf_plan 100000) schedule
unfolding terms
whole_leaf = record { last = (told (setting_of program leaf_plan 100000) schedule).world; runs = refl; over = record { nobody = nobody_leaf } }

pub ends_leaf : (close (setting_of program leaf_plan 100000) schedule).ends ≡ ended status.Ended 4 6 (pos 9 ∷ []) ∷ []
unfolding terms
ends_leaf = refl

abbrev pub events_a_leaf : List TracedEvent
events_a_leaf =
    traced (event 2 [] (access (Local 1 0) (pos 9) ∷ []) None None None) [] None None
    ∷ traced (event 0 (access (Local 1 0) (pos 9) ∷ []) (access (Shared 0) (pos 9) ∷ []) None None None) (Some (id 0 0) ∷ []) (Some (id 0 0)) None
    ∷ traced (quiet 1) [] (Some (id 0 0)) None
    ∷ traced (event 3 (access (Shared 0) (pos 9) ∷ []) [] (Some (pos 9)) None None) (Some (id 0 1) ∷ []) None None
    ∷ traced (quiet 4) [] None None ∷ []

pub trace_leaf : full_trace (setting_of program leaf_plan 100000) (story (setting_of program leaf_plan 100000) schedule) ≡ record { events = events_a_leaf ∷ [] }
unfolding terms
trace_leaf = refl

pub synchronizations_leaf : sync_record (setting_of program leaf_plan 100000) schedule ≡ [] ∷ []
unfolding terms
synchronizations_leaf = refl

pub accesses_a_leaf : accesses leaf_story 0 ≡ touched 0 0 true ∷ touched 0 0 false ∷ []
unfolding terms
accesses_a_leaf = refl

pub races_leaf : races (setting_of program leaf_plan 100000) schedule ≡ []
unfolding terms
races_leaf = refl

pub logs_leaf : (closed_logs (setting_of program leaf_plan 100000) schedule).lists ≡
    (entry.Prelog 0 [] ∷ entry.Unit 1 [] ∷ entry.Unit 0 [] ∷ entry.Unit 2 (pos 9 ∷ []) ∷ entry.Postlog 0 [] ∷ entry.End status.Ended 2 (0 ∷ []) (0 ∷ []) ∷ []) ∷ []
unfolding terms
logs_leaf = refl

pub extents_a_leaf : extents (setting_of program leaf_plan 100000) leaf_story 0 ≡
    extent 0 [] 0 (Some 5) 6 ∷ []
unfolding terms
extents_a_leaf = refl

pub open_a_0_leaf : items (setting_of program leaf_plan 100000) leaf_story 0 0 ≡
    Some (Own (event 2 [] (access (Local 1 0) (pos 9) ∷ []) None None None)
    ∷ Own (event 0 (access (Local 1 0) (pos 9) ∷ []) (access (Shared 0) (pos 9) ∷ []) None None None)
    ∷ Own (quiet 1)
    ∷ Own (event 3 (access (Shared 0) (pos 9) ∷ []) [] (Some (pos 9)) None None)
    ∷ Own (quiet 4) ∷ [])
unfolding terms
open_a_0_leaf = refl

pub whys_a_0_leaf : whys (setting_of program leaf_plan 100000) leaf_story 0 0 6 ≡
    Some (control_from Entry ∷ [])
    ∷ Some (read_from (Local 1 0) (pos 9) (ItemAt 0 0 0) ∷ control_from (ItemAt 0 0 0) ∷ [])
    ∷ Some (control_from (ItemAt 0 0 0) ∷ [])
    ∷ Some (read_from (Shared 0) (pos 9) (ItemAt 0 0 1) ∷ control_from Entry ∷ [])
    ∷ Some (control_from Entry ∷ [])
    ∷ None ∷ []
unfolding terms
whys_a_0_leaf = refl

pub nears_a_0_leaf : nears (setting_of program leaf_plan 100000) leaf_story 0 0 5 ≡ 6 ∷ 6 ∷ 6 ∷ 6 ∷ 6 ∷ []
unfolding terms
nears_a_0_leaf = refl

pub final_x_leaf : last (setting_of program leaf_plan 100000) leaf_story 0 ≡ (pos 9, ItemAt 0 0 1)
unfolding terms
final_x_leaf = refl

abbrev pub the_story : Story
the_story = story (setting_of program plan 100000) schedule

nobody : (p : ℕ) → enabled program plan (told (setting_of program plan 100000) schedule).world p ≡ false
unfolding terms
nobody zero = refl
nobody (suc p) = refl

pub whole : IsWhole (setting_of program plan 100000) schedule
unfolding terms
whole = record { last = (told (setting_of program plan 100000) schedule).world; runs = refl; over = record { nobody = nobody } }

pub ends : (close (setting_of program plan 100000) schedule).ends ≡ ended status.Ended 4 6 (pos 9 ∷ []) ∷ []
unfolding terms
ends = refl

abbrev pub events_a : List TracedEvent
events_a =
    traced (event 2 [] (access (Local 1 0) (pos 9) ∷ []) None None None) [] None None
    ∷ traced (event 0 (access (Local 0 0) (pos 9) ∷ []) (access (Shared 0) (pos 9) ∷ []) None None None) (Some (id 0 0) ∷ []) (Some (id 0 0)) None
    ∷ traced (quiet 1) [] (Some (id 0 0)) None
    ∷ traced (event 3 (access (Shared 0) (pos 9) ∷ []) [] (Some (pos 9)) None None) (Some (id 0 1) ∷ []) None None
    ∷ traced (quiet 4) [] None None ∷ []

pub trace : full_trace (setting_of program plan 100000) (story (setting_of program plan 100000) schedule) ≡ record { events = events_a ∷ [] }
unfolding terms
trace = refl

pub synchronizations : sync_record (setting_of program plan 100000) schedule ≡ [] ∷ []
unfolding terms
synchronizations = refl

pub accesses_a : accesses the_story 0 ≡ touched 0 0 true ∷ touched 0 0 false ∷ []
unfolding terms
accesses_a = refl

pub race_list : races (setting_of program plan 100000) schedule ≡ []
unfolding terms
race_list = refl

pub log : (closed_logs (setting_of program plan 100000) schedule).lists ≡
    (entry.Prelog 1 [] ∷ entry.Unit 1 [] ∷ entry.Prelog 0 (pos 9 ∷ []) ∷ entry.Unit 0 [] ∷ entry.Postlog 0 [] ∷ entry.Unit 2 (pos 9 ∷ []) ∷ entry.Postlog 1 [] ∷ entry.End status.Ended 2 (0 ∷ []) (0 ∷ []) ∷ []) ∷ []
unfolding terms
log = refl

pub extents_a : extents (setting_of program plan 100000) the_story 0 ≡
    extent 1 [] 0 (Some 5) 4
    ∷ extent 0 (0 ∷ []) 0 (Some 2) 2 ∷ []
unfolding terms
extents_a = refl

pub open_a_0 : items (setting_of program plan 100000) the_story 0 0 ≡
    Some (Own (event 2 [] (access (Local 1 0) (pos 9) ∷ []) None None None)
    ∷ Nested 1 0 [] true
    ∷ Own (event 3 (access (Shared 0) (pos 9) ∷ []) [] (Some (pos 9)) None None)
    ∷ Own (quiet 4) ∷ [])
unfolding terms
open_a_0 = refl

pub open_a_1 : items (setting_of program plan 100000) the_story 0 1 ≡
    Some (Own (event 0 (access (Local 0 0) (pos 9) ∷ []) (access (Shared 0) (pos 9) ∷ []) None None None)
    ∷ Own (quiet 1) ∷ [])
unfolding terms
open_a_1 = refl

pub whys_a_0 : whys (setting_of program plan 100000) the_story 0 0 5 ≡
    Some (control_from Entry ∷ [])
    ∷ Some (control_from (ItemAt 0 0 0) ∷ [])
    ∷ Some (read_from (Shared 0) (pos 9) (ItemAt 0 1 0) ∷ control_from Entry ∷ [])
    ∷ Some (control_from Entry ∷ [])
    ∷ None ∷ []
unfolding terms
whys_a_0 = refl

pub whys_a_1 : whys (setting_of program plan 100000) the_story 0 1 3 ≡
    Some (read_from (Local 0 0) (pos 9) (ItemAt 0 0 0) ∷ control_from (ItemAt 0 0 0) ∷ [])
    ∷ Some (control_from (ItemAt 0 0 0) ∷ [])
    ∷ None ∷ []
unfolding terms
whys_a_1 = refl

pub nears_a_0 : nears (setting_of program plan 100000) the_story 0 0 4 ≡ 6 ∷ 6 ∷ 6 ∷ 6 ∷ []
unfolding terms
nears_a_0 = refl

pub nears_a_1 : nears (setting_of program plan 100000) the_story 0 1 2 ≡ 6 ∷ 6 ∷ []
unfolding terms
nears_a_1 = refl

pub final_x : last (setting_of program plan 100000) the_story 0 ≡ (pos 9, ItemAt 0 1 0)
unfolding terms
final_x = refl
