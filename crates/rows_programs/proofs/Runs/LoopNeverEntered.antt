-- process a { int i = 3; while (i < 3) { i = i + 1; } print(i); } with loops as blocks
use Rattle.ppd_model.specs.Setting.{setting_of}
use Rattle.std.proofs.Common.{◌≡◌, refl}
use Rattle.std.specs.Prelude.{ℕ, zero, suc, pos, true, false, List, [], ◌∷◌, Some, None}
use Rattle.ppd_ast.specs.Term.{terms}
use Rattle.ppd_ast.specs.declared.plan.BlockKind.TheVariants as block
use Rattle.ppd_ast.specs.declared.plan.Plan.{Plan}
use Rattle.ppd_ast.specs.declared.plan.Start.TheVariants as start
use Rattle.ppd_ast.specs.declared.program.Expr.TheVariants as expr
use Rattle.ppd_ast.specs.declared.program.Kind.TheVariants as kind
use Rattle.ppd_ast.specs.declared.program.Op.TheVariants as op
use Rattle.ppd_ast.specs.declared.program.Program.{Program}
use Rattle.ppd_ast.specs.declared.program.Target.TheVariants as target
use Rattle.ppd_ast.specs.declared.status.Status.TheVariants as status
use Rattle.ppd_model.specs.declared.entry.Entry.TheVariants as entry
use Rattle.ppd_sem.specs.declared.event.Spot.TheVariants.{Local}
use Rattle.ppd_model.specs.declared.flow.Item.TheVariants.{Own, Nested}
use Rattle.ppd_model.specs.declared.flow.Origin.TheVariants.{Entry, Item as ItemAt}
use Rattle.ppd_model.specs.declared.trace.TracedEvent.{TracedEvent}
use Rattle.ppd_model.specs.World.{enabled}
use Rattle.ppd_model.specs.Schedule.{IsWhole}
use Rattle.ppd_model.specs.declared.tracing.Story.{Story}
use Rattle.ppd_model.specs.Story.{story, told}
use Rattle.ppd_model.specs.FullTrace.{full_trace}
use Rattle.ppd_model.specs.Record.{accesses, sync_record}
use Rattle.ppd_model.specs.Races.{races}
use Rattle.ppd_model.specs.Logs.{close, closed_logs}
use Rattle.ppd_model.specs.Intervals.{items}
use Rattle.rows_programs.proofs.Runs.Tables.{stmt_in, scalar, body_of, block_of, unit_of, access, event, quiet, id, traced, ended, read_from, left_from, control_from}
use Rattle.rows_programs.proofs.Runs.Showing.{extent, extents, whys, nears}

abbrev pub program : Program
program = record {
  exprs = expr.Const (pos 3) ∷ expr.Local 0 ∷ expr.Const (pos 3) ∷ expr.Two op.Lt 1 2 ∷ expr.Local 0 ∷ expr.Const (pos 1) ∷ expr.Two op.Add 4 5 ∷ expr.Local 0 ∷ [];
  stmts =
      stmt_in 0 1 17 None (kind.Set (target.Local 0) 0)
      ∷ stmt_in 0 1 24 None (kind.While 3 (2 ∷ []))
      ∷ stmt_in 0 1 40 (Some 1) (kind.Set (target.Local 0) 6)
      ∷ stmt_in 0 1 53 None (kind.Print 7)
      ∷ stmt_in 0 1 63 None kind.End ∷ [];
  bodies = body_of 97 true 0 false (scalar 105 0 ∷ []) 1 (0 ∷ 1 ∷ 3 ∷ 4 ∷ []) 0 5 ∷ [];
  functions = 0;
  shared = [];
  starts = [];
  sems = [];
  chans = [];
}

abbrev pub plan : Plan
plan = record {
  policy = record { leaf = 0; loops = 1 };
  blocks = block_of (block.Process 0) [] [] false ∷ block_of (block.Loop 1) (0 ∷ []) (0 ∷ []) false ∷ [];
  units = unit_of (start.Entry 0) [] ∷ unit_of (start.Enter 1) [] ∷ unit_of (start.Exit 1) [] ∷ [];
}

abbrev pub schedule : List ℕ
schedule = 0 ∷ 0 ∷ 0 ∷ 0 ∷ 0 ∷ []

abbrev pub the_story : Story
the_story = story (setting_of program plan 100000) schedule

nobody : (p : ℕ) → enabled program plan (told (setting_of program plan 100000) schedule).world p ≡ false
unfolding terms
nobody zero = refl
nobody (suc p) = refl

pub whole : IsWhole (setting_of program plan 100000) schedule
unfolding terms
whole = record { last = (told (setting_of program plan 100000) schedule).world; runs = refl; over = record { nobody = nobody } }

pub ends : (close (setting_of program plan 100000) schedule).ends ≡ ended status.Ended 4 5 (pos 3 ∷ []) ∷ []
unfolding terms
ends = refl

abbrev pub events_a : List TracedEvent
events_a =
    traced (event 0 [] (access (Local 0 0) (pos 3) ∷ []) None None None) [] None None
    ∷ traced (event 1 (access (Local 0 0) (pos 3) ∷ []) [] (Some (pos 0)) None None) (Some (id 0 0) ∷ []) None None
    ∷ traced (event 3 (access (Local 0 0) (pos 3) ∷ []) [] (Some (pos 3)) None None) (Some (id 0 0) ∷ []) None None
    ∷ traced (quiet 4) [] None None ∷ []

pub trace : full_trace (setting_of program plan 100000) (story (setting_of program plan 100000) schedule) ≡ record { events = events_a ∷ [] }
unfolding terms
trace = refl

pub synchronizations : sync_record (setting_of program plan 100000) schedule ≡ [] ∷ []
unfolding terms
synchronizations = refl

pub accesses_a : accesses the_story 0 ≡ []
unfolding terms
accesses_a = refl

pub race_list : races (setting_of program plan 100000) schedule ≡ []
unfolding terms
race_list = refl

pub log : (closed_logs (setting_of program plan 100000) schedule).lists ≡
    (entry.Prelog 0 [] ∷ entry.Unit 0 [] ∷ entry.Prelog 1 (pos 3 ∷ []) ∷ entry.Unit 1 [] ∷ entry.Postlog 1 (pos 3 ∷ []) ∷ entry.Unit 2 [] ∷ entry.Postlog 0 [] ∷ entry.End status.Ended 1 [] [] ∷ []) ∷ []
unfolding terms
log = refl

pub extents_a : extents (setting_of program plan 100000) the_story 0 ≡
    extent 0 [] 0 (Some 4) 4
    ∷ extent 1 (0 ∷ []) 1 (Some 2) 1 ∷ []
unfolding terms
extents_a = refl

pub open_a_0 : items (setting_of program plan 100000) the_story 0 0 ≡
    Some (Own (event 0 [] (access (Local 0 0) (pos 3) ∷ []) None None None)
    ∷ Nested 1 1 (pos 3 ∷ []) true
    ∷ Own (event 3 (access (Local 0 0) (pos 3) ∷ []) [] (Some (pos 3)) None None)
    ∷ Own (quiet 4) ∷ [])
unfolding terms
open_a_0 = refl

pub open_a_1 : items (setting_of program plan 100000) the_story 0 1 ≡
    Some (Own (event 1 (access (Local 0 0) (pos 3) ∷ []) [] (Some (pos 0)) None None) ∷ [])
unfolding terms
open_a_1 = refl

pub whys_a_0 : whys (setting_of program plan 100000) the_story 0 0 5 ≡
    Some (control_from Entry ∷ [])
    ∷ Some (left_from (Local 0 0) (pos 3) (ItemAt 0 0 0) ∷ control_from Entry ∷ [])
    ∷ Some (read_from (Local 0 0) (pos 3) (ItemAt 0 0 0) ∷ control_from Entry ∷ [])
    ∷ Some (control_from Entry ∷ [])
    ∷ None ∷ []
unfolding terms
whys_a_0 = refl

pub whys_a_1 : whys (setting_of program plan 100000) the_story 0 1 2 ≡
    Some (read_from (Local 0 0) (pos 3) (ItemAt 0 0 0) ∷ control_from Entry ∷ [])
    ∷ None ∷ []
unfolding terms
whys_a_1 = refl

pub nears_a_0 : nears (setting_of program plan 100000) the_story 0 0 4 ≡ 5 ∷ 5 ∷ 5 ∷ 5 ∷ []
unfolding terms
nears_a_0 = refl

pub nears_a_1 : nears (setting_of program plan 100000) the_story 0 1 1 ≡ 5 ∷ []
unfolding terms
nears_a_1 = refl
