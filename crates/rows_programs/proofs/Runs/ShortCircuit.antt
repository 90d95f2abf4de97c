-- shared int a[2]; process p { int i; a[0] = 5; a[1] = 6; while (i < 2 && a[i] != 0) { i = i + 1; } print(i); }
use Rattle.ppd_model.specs.Setting.{setting_of}
use Rattle.std.proofs.Common.{◌≡◌, refl}
use Rattle.std.specs.Prelude.{ℕ, zero, suc, pos, true, false, List, [], ◌∷◌, Some, None}
use Rattle.ppd_ast.specs.Term.{terms}
use Rattle.ppd_ast.specs.declared.plan.BlockKind.TheVariants as block
use Rattle.ppd_ast.specs.declared.plan.Plan.{Plan}
use Rattle.ppd_ast.specs.declared.plan.Start.TheVariants as start
use Rattle.ppd_ast.specs.declared.program.Expr.TheVariants as expr
use Rattle.ppd_ast.specs.declared.program.Kind.TheVariants as kind
use Rattle.ppd_ast.specs.declared.program.Op.TheVariants as op
use Rattle.ppd_ast.specs.declared.program.Program.{Program}
use Rattle.ppd_ast.specs.declared.program.Target.TheVariants as target
use Rattle.ppd_ast.specs.declared.status.Status.TheVariants as status
use Rattle.ppd_model.specs.declared.entry.Entry.TheVariants as entry
use Rattle.ppd_sem.specs.declared.event.Spot.TheVariants.{Local, Shared}
use Rattle.ppd_model.specs.declared.flow.Item.TheVariants.{Own}
use Rattle.ppd_model.specs.declared.flow.Origin.TheVariants.{Entry, Item as ItemAt}
use Rattle.ppd_model.specs.declared.trace.TracedEvent.{TracedEvent}
use Rattle.ppd_model.specs.World.{enabled}
use Rattle.ppd_model.specs.Schedule.{IsWhole}
use Rattle.ppd_model.specs.declared.tracing.Story.{Story}
use Rattle.ppd_model.specs.Story.{story, told}
use Rattle.ppd_model.specs.FullTrace.{full_trace}
use Rattle.ppd_model.specs.Record.{accesses, sync_record}
use Rattle.ppd_model.specs.Races.{races}
use Rattle.ppd_model.specs.Logs.{close, closed_logs}
use Rattle.ppd_model.specs.Intervals.{items}
use Rattle.ppd_model.specs.FlowbackEdges.{last}
use Rattle.rows_programs.proofs.Runs.Tables.{stmt_in, scalar, array, body_of, block_of, unit_of, access, event, quiet, id, traced, ended, read_from, control_from}
use Rattle.rows_programs.proofs.Runs.Showing.{touched, extent, extents, whys, nears}

abbrev pub program : Program
program = record {
  exprs = expr.Const (pos 0) ∷ expr.Const (pos 0) ∷ expr.Const (pos 5) ∷ expr.Const (pos 1) ∷ expr.Const (pos 6) ∷ expr.Local 0 ∷ expr.Const (pos 2) ∷ expr.Two op.Lt 5 6 ∷ expr.Local 0 ∷ expr.SharedAt 0 2 8 ∷ expr.Const (pos 0) ∷ expr.Two op.Ne 9 10 ∷ expr.And 7 11 ∷ expr.Local 0 ∷ expr.Const (pos 1) ∷ expr.Two op.Add 13 14 ∷ expr.Local 0 ∷ [];
  stmts =
      stmt_in 0 3 7 None (kind.Set (target.Local 0) 0)
      ∷ stmt_in 0 4 3 None (kind.Set (target.SharedAt 0 2 1) 2)
      ∷ stmt_in 0 5 3 None (kind.Set (target.SharedAt 0 2 3) 4)
      ∷ stmt_in 0 6 3 None (kind.While 12 (4 ∷ []))
      ∷ stmt_in 0 6 32 (Some 3) (kind.Set (target.Local 0) 15)
      ∷ stmt_in 0 7 3 None (kind.Print 16)
      ∷ stmt_in 0 8 1 None kind.End ∷ [];
  bodies = body_of 112 true 0 false (scalar 105 0 ∷ []) 1 (0 ∷ 1 ∷ 2 ∷ 3 ∷ 5 ∷ 6 ∷ []) 0 7 ∷ [];
  functions = 0;
  shared = array 97 0 2 ∷ [];
  starts = pos 0 ∷ pos 0 ∷ [];
  sems = [];
  chans = [];
}

abbrev pub plan : Plan
plan = record {
  policy = record { leaf = 0; loops = 0 };
  blocks = block_of (block.Process 0) [] [] false ∷ [];
  units = unit_of (start.Entry 0) (0 ∷ 1 ∷ []) ∷ [];
}

abbrev pub schedule : List ℕ
schedule = 0 ∷ 0 ∷ 0 ∷ 0 ∷ 0 ∷ 0 ∷ 0 ∷ 0 ∷ 0 ∷ 0 ∷ 0 ∷ 0 ∷ []

abbrev pub the_story : Story
the_story = story (setting_of program plan 100000) schedule

nobody : (p : ℕ) → enabled program plan (told (setting_of program plan 100000) schedule).world p ≡ false
unfolding terms
nobody zero = refl
nobody (suc p) = refl

pub whole : IsWhole (setting_of program plan 100000) schedule
unfolding terms
whole = record { last = (told (setting_of program plan 100000) schedule).world; runs = refl; over = record { nobody = nobody } }

pub ends : (close (setting_of program plan 100000) schedule).ends ≡ ended status.Ended 6 12 (pos 2 ∷ []) ∷ []
unfolding terms
ends = refl

abbrev pub events_p : List TracedEvent
events_p =
    traced (event 0 [] (access (Local 0 0) (pos 0) ∷ []) None None None) [] None None
    ∷ traced (event 1 [] (access (Shared 0) (pos 5) ∷ []) None None None) [] None None
    ∷ traced (event 2 [] (access (Shared 1) (pos 6) ∷ []) None None None) [] None None
    ∷ traced (event 3 (access (Local 0 0) (pos 0) ∷ access (Local 0 0) (pos 0) ∷ access (Shared 0) (pos 5) ∷ []) [] (Some (pos 1)) None None) (Some (id 0 0) ∷ Some (id 0 0) ∷ Some (id 0 1) ∷ []) None None
    ∷ traced (event 4 (access (Local 0 0) (pos 0) ∷ []) (access (Local 0 0) (pos 1) ∷ []) None None None) (Some (id 0 0) ∷ []) (Some (id 0 3)) None
    ∷ traced (event 3 (access (Local 0 0) (pos 1) ∷ access (Local 0 0) (pos 1) ∷ access (Shared 1) (pos 6) ∷ []) [] (Some (pos 1)) None None) (Some (id 0 4) ∷ Some (id 0 4) ∷ Some (id 0 2) ∷ []) (Some (id 0 3)) None
    ∷ traced (event 4 (access (Local 0 0) (pos 1) ∷ []) (access (Local 0 0) (pos 2) ∷ []) None None None) (Some (id 0 4) ∷ []) (Some (id 0 5)) None
    ∷ traced (event 3 (access (Local 0 0) (pos 2) ∷ []) [] (Some (pos 0)) None None) (Some (id 0 6) ∷ []) (Some (id 0 5)) None
    ∷ traced (event 5 (access (Local 0 0) (pos 2) ∷ []) [] (Some (pos 2)) None None) (Some (id 0 6) ∷ []) None None
    ∷ traced (quiet 6) [] None None ∷ []

pub trace : full_trace (setting_of program plan 100000) (story (setting_of program plan 100000) schedule) ≡ record { events = events_p ∷ [] }
unfolding terms
trace = refl

pub synchronizations : sync_record (setting_of program plan 100000) schedule ≡ [] ∷ []
unfolding terms
synchronizations = refl

pub accesses_p : accesses the_story 0 ≡ touched 0 0 true ∷ touched 0 1 true ∷ touched 0 0 false ∷ touched 0 1 false ∷ []
unfolding terms
accesses_p = refl

pub race_list : races (setting_of program plan 100000) schedule ≡ []
unfolding terms
race_list = refl

pub log : (closed_logs (setting_of program plan 100000) schedule).lists ≡
    (entry.Prelog 0 [] ∷ entry.Unit 0 (pos 0 ∷ pos 0 ∷ []) ∷ entry.Postlog 0 [] ∷ entry.End status.Ended 11 (0 ∷ 1 ∷ []) (0 ∷ 1 ∷ []) ∷ []) ∷ []
unfolding terms
log = refl

pub extents_p : extents (setting_of program plan 100000) the_story 0 ≡
    extent 0 [] 0 (Some 11) 12 ∷ []
unfolding terms
extents_p = refl

pub open_p_0 : items (setting_of program plan 100000) the_story 0 0 ≡
    Some (Own (event 0 [] (access (Local 0 0) (pos 0) ∷ []) None None None)
    ∷ Own (event 1 [] (access (Shared 0) (pos 5) ∷ []) None None None)
    ∷ Own (event 2 [] (access (Shared 1) (pos 6) ∷ []) None None None)
    ∷ Own (event 3 (access (Local 0 0) (pos 0) ∷ access (Local 0 0) (pos 0) ∷ access (Shared 0) (pos 5) ∷ []) [] (Some (pos 1)) None None)
    ∷ Own (event 4 (access (Local 0 0) (pos 0) ∷ []) (access (Local 0 0) (pos 1) ∷ []) None None None)
    ∷ Own (event 3 (access (Local 0 0) (pos 1) ∷ access (Local 0 0) (pos 1) ∷ access (Shared 1) (pos 6) ∷ []) [] (Some (pos 1)) None None)
    ∷ Own (event 4 (access (Local 0 0) (pos 1) ∷ []) (access (Local 0 0) (pos 2) ∷ []) None None None)
    ∷ Own (event 3 (access (Local 0 0) (pos 2) ∷ []) [] (Some (pos 0)) None None)
    ∷ Own (event 5 (access (Local 0 0) (pos 2) ∷ []) [] (Some (pos 2)) None None)
    ∷ Own (quiet 6) ∷ [])
unfolding terms
open_p_0 = refl

pub whys_p_0 : whys (setting_of program plan 100000) the_story 0 0 11 ≡
    Some (control_from Entry ∷ [])
    ∷ Some (control_from Entry ∷ [])
    ∷ Some (control_from Entry ∷ [])
    ∷ Some (read_from (Local 0 0) (pos 0) (ItemAt 0 0 0) ∷ read_from (Local 0 0) (pos 0) (ItemAt 0 0 0) ∷ read_from (Shared 0) (pos 5) (ItemAt 0 0 1) ∷ control_from Entry ∷ [])
    ∷ Some (read_from (Local 0 0) (pos 0) (ItemAt 0 0 0) ∷ control_from (ItemAt 0 0 3) ∷ [])
    ∷ Some (read_from (Local 0 0) (pos 1) (ItemAt 0 0 4) ∷ read_from (Local 0 0) (pos 1) (ItemAt 0 0 4) ∷ read_from (Shared 1) (pos 6) (ItemAt 0 0 2) ∷ control_from (ItemAt 0 0 3) ∷ [])
    ∷ Some (read_from (Local 0 0) (pos 1) (ItemAt 0 0 4) ∷ control_from (ItemAt 0 0 5) ∷ [])
    ∷ Some (read_from (Local 0 0) (pos 2) (ItemAt 0 0 6) ∷ control_from (ItemAt 0 0 5) ∷ [])
    ∷ Some (read_from (Local 0 0) (pos 2) (ItemAt 0 0 6) ∷ control_from Entry ∷ [])
    ∷ Some (control_from Entry ∷ [])
    ∷ None ∷ []
unfolding terms
whys_p_0 = refl

pub nears_p_0 : nears (setting_of program plan 100000) the_story 0 0 10 ≡ 12 ∷ 12 ∷ 12 ∷ 12 ∷ 12 ∷ 12 ∷ 12 ∷ 12 ∷ 12 ∷ 12 ∷ []
unfolding terms
nears_p_0 = refl

pub final_a_0 : last (setting_of program plan 100000) the_story 0 ≡ (pos 5, ItemAt 0 0 1)
unfolding terms
final_a_0 = refl

pub final_a_1 : last (setting_of program plan 100000) the_story 1 ≡ (pos 6, ItemAt 0 0 2)
unfolding terms
final_a_1 = refl
