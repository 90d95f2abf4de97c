-- shared int x; sem s; void f(int k) { int i; while (i < k) { i = i + 1; } x = i; } process a { f(1); V(s); f(0); print(x); }
use Rattle.ppd_model.specs.Setting.{setting_of}
use Rattle.std.proofs.Common.{◌≡◌, refl}
use Rattle.std.specs.Prelude.{ℕ, zero, suc, pos, true, false, List, [], ◌∷◌, Some, None}
use Rattle.ppd_ast.specs.Term.{terms}
use Rattle.ppd_ast.specs.declared.plan.BlockKind.TheVariants as block
use Rattle.ppd_ast.specs.declared.plan.Plan.{Plan}
use Rattle.ppd_ast.specs.declared.plan.Start.TheVariants as start
use Rattle.ppd_ast.specs.declared.program.Expr.TheVariants as expr
use Rattle.ppd_ast.specs.declared.program.Kind.TheVariants as kind
use Rattle.ppd_ast.specs.declared.program.Op.TheVariants as op
use Rattle.ppd_ast.specs.declared.program.Program.{Program}
use Rattle.ppd_ast.specs.declared.program.Target.TheVariants as target
use Rattle.ppd_ast.specs.declared.status.Status.TheVariants as status
use Rattle.ppd_ast.specs.declared.status.SyncKind.TheVariants as sync
use Rattle.ppd_model.specs.declared.entry.Entry.TheVariants as entry
use Rattle.ppd_sem.specs.declared.event.Spot.TheVariants.{Local, Shared}
use Rattle.ppd_model.specs.declared.flow.Item.TheVariants.{Own, Nested}
use Rattle.ppd_model.specs.declared.flow.Origin.TheVariants.{Entry, Item as ItemAt}
use Rattle.ppd_model.specs.declared.trace.TracedEvent.{TracedEvent}
use Rattle.ppd_model.specs.World.{enabled}
use Rattle.ppd_model.specs.Schedule.{IsWhole}
use Rattle.ppd_model.specs.declared.tracing.Story.{Story}
use Rattle.ppd_model.specs.Story.{story, told}
use Rattle.ppd_model.specs.FullTrace.{full_trace}
use Rattle.ppd_model.specs.Record.{accesses, sync_record}
use Rattle.ppd_model.specs.Races.{races}
use Rattle.ppd_model.specs.Logs.{close, closed_logs}
use Rattle.ppd_model.specs.Intervals.{items}
use Rattle.ppd_model.specs.FlowbackEdges.{last}
use Rattle.rows_programs.proofs.Runs.Tables.{stmt_in, scalar, body_of, block_of, unit_of, access, event, quiet, id, traced, ended, read_from, left_from, control_from}
use Rattle.rows_programs.proofs.Runs.Showing.{synced, touched, extent, extents, whys, nears}

abbrev pub program : Program
program = record {
  exprs = expr.Const (pos 0) ∷ expr.Local 1 ∷ expr.Local 0 ∷ expr.Two op.Lt 1 2 ∷ expr.Local 1 ∷ expr.Const (pos 1) ∷ expr.Two op.Add 4 5 ∷ expr.Local 1 ∷ expr.Const (pos 1) ∷ expr.Const (pos 0) ∷ expr.Shared 0 ∷ [];
  stmts =
      stmt_in 0 1 42 None (kind.Set (target.Local 1) 0)
      ∷ stmt_in 0 1 45 None (kind.While 3 (2 ∷ []))
      ∷ stmt_in 0 1 61 (Some 1) (kind.Set (target.Local 1) 6)
      ∷ stmt_in 0 1 74 None (kind.Set (target.Shared 0) 7)
      ∷ stmt_in 0 1 81 None (kind.Return None)
      ∷ stmt_in 1 1 95 None (kind.Call 0 (8 ∷ []) None)
      ∷ stmt_in 1 1 101 None (kind.V 0)
      ∷ stmt_in 1 1 107 None (kind.Call 0 (9 ∷ []) None)
      ∷ stmt_in 1 1 113 None (kind.Print 10)
      ∷ stmt_in 1 1 123 None kind.End ∷ [];
  bodies = body_of 102 false 1 false (scalar 107 0 ∷ scalar 105 1 ∷ []) 2 (0 ∷ 1 ∷ 3 ∷ 4 ∷ []) 0 5 ∷ body_of 97 true 0 false [] 0 (5 ∷ 6 ∷ 7 ∷ 8 ∷ 9 ∷ []) 5 10 ∷ [];
  functions = 1;
  shared = scalar 120 0 ∷ [];
  starts = pos 0 ∷ [];
  sems = record { name = 115 ∷ []; start = 0 } ∷ [];
  chans = [];
}

-- loops are blocks, and functions of fewer than 6 statements are none
abbrev pub plan : Plan
plan = record {
  policy = record { leaf = 6; loops = 1 };
  blocks = block_of (block.Loop 1) (0 ∷ 1 ∷ []) (1 ∷ []) false ∷ block_of (block.Process 1) [] [] false ∷ [];
  units = unit_of (start.Entry 0) [] ∷ unit_of (start.Enter 1) [] ∷ unit_of (start.Exit 1) [] ∷ unit_of (start.Entry 1) [] ∷ unit_of (start.After 5) [] ∷ unit_of (start.After 6) [] ∷ unit_of (start.After 7) (0 ∷ []) ∷ [];
}

abbrev pub schedule : List ℕ
schedule = 0 ∷ 0 ∷ 0 ∷ 0 ∷ 0 ∷ 0 ∷ 0 ∷ 0 ∷ 0 ∷ 0 ∷ 0 ∷ 0 ∷ 0 ∷ 0 ∷ 0 ∷ 0 ∷ 0 ∷ 0 ∷ []

abbrev pub the_story : Story
the_story = story (setting_of program plan 100000) schedule

nobody : (p : ℕ) → enabled program plan (told (setting_of program plan 100000) schedule).world p ≡ false
unfolding terms
nobody zero = refl
nobody (suc p) = refl

pub whole : IsWhole (setting_of program plan 100000) schedule
unfolding terms
whole = record { last = (told (setting_of program plan 100000) schedule).world; runs = refl; over = record { nobody = nobody } }

pub ends : (close (setting_of program plan 100000) schedule).ends ≡ ended status.Ended 9 18 (pos 0 ∷ []) ∷ []
unfolding terms
ends = refl

abbrev pub events_a : List TracedEvent
events_a =
    traced (event 5 [] (access (Local 1 0) (pos 1) ∷ []) None None None) [] None None
    ∷ traced (event 0 [] (access (Local 1 1) (pos 0) ∷ []) None None None) [] (Some (id 0 0)) None
    ∷ traced (event 1 (access (Local 0 1) (pos 0) ∷ access (Local 0 0) (pos 1) ∷ []) [] (Some (pos 1)) None None) (Some (id 0 1) ∷ Some (id 0 0) ∷ []) (Some (id 0 0)) None
    ∷ traced (event 2 (access (Local 0 1) (pos 0) ∷ []) (access (Local 0 1) (pos 1) ∷ []) None None None) (Some (id 0 1) ∷ []) (Some (id 0 2)) None
    ∷ traced (event 1 (access (Local 0 1) (pos 1) ∷ access (Local 0 0) (pos 1) ∷ []) [] (Some (pos 0)) None None) (Some (id 0 3) ∷ Some (id 0 0) ∷ []) (Some (id 0 2)) None
    ∷ traced (event 3 (access (Local 1 1) (pos 1) ∷ []) (access (Shared 0) (pos 1) ∷ []) None None None) (Some (id 0 3) ∷ []) (Some (id 0 0)) None
    ∷ traced (quiet 4) [] (Some (id 0 0)) None
    ∷ traced (event 6 [] [] None (Some 1) None) [] None None
    ∷ traced (event 7 [] (access (Local 1 0) (pos 0) ∷ []) None None None) [] None None
    ∷ traced (event 0 [] (access (Local 1 1) (pos 0) ∷ []) None None None) [] (Some (id 0 8)) None
    ∷ traced (event 1 (access (Local 0 1) (pos 0) ∷ access (Local 0 0) (pos 0) ∷ []) [] (Some (pos 0)) None None) (Some (id 0 9) ∷ Some (id 0 8) ∷ []) (Some (id 0 8)) None
    ∷ traced (event 3 (access (Local 1 1) (pos 0) ∷ []) (access (Shared 0) (pos 0) ∷ []) None None None) (Some (id 0 9) ∷ []) (Some (id 0 8)) None
    ∷ traced (quiet 4) [] (Some (id 0 8)) None
    ∷ traced (event 8 (access (Shared 0) (pos 0) ∷ []) [] (Some (pos 0)) None None) (Some (id 0 11) ∷ []) None None
    ∷ traced (quiet 9) [] None None ∷ []

pub trace : full_trace (setting_of program plan 100000) (story (setting_of program plan 100000) schedule) ≡ record { events = events_a ∷ [] }
unfolding terms
trace = refl

pub synchronizations : sync_record (setting_of program plan 100000) schedule ≡ (synced sync.V 0 1 ∷ []) ∷ []
unfolding terms
synchronizations = refl

pub accesses_a : accesses the_story 0 ≡ touched 0 0 true ∷ touched 1 0 true ∷ touched 1 0 false ∷ []
unfolding terms
accesses_a = refl

pub race_list : races (setting_of program plan 100000) schedule ≡ []
unfolding terms
race_list = refl

pub log : (closed_logs (setting_of program plan 100000) schedule).lists ≡
    (entry.Prelog 1 [] ∷ entry.Unit 3 [] ∷ entry.Unit 0 [] ∷ entry.Prelog 0 (pos 1 ∷ pos 0 ∷ []) ∷ entry.Unit 1 [] ∷ entry.Postlog 0 (pos 1 ∷ []) ∷ entry.Unit 2 [] ∷ entry.Unit 4 [] ∷ entry.Sync sync.V 0 1 (pos 0) [] (0 ∷ []) ∷ entry.Unit 5 [] ∷ entry.Unit 0 [] ∷ entry.Prelog 0 (pos 0 ∷ pos 0 ∷ []) ∷ entry.Unit 1 [] ∷ entry.Postlog 0 (pos 0 ∷ []) ∷ entry.Unit 2 [] ∷ entry.Unit 6 (pos 0 ∷ []) ∷ entry.Postlog 1 [] ∷ entry.End status.Ended 2 (0 ∷ []) (0 ∷ []) ∷ []) ∷ []
unfolding terms
log = refl

pub extents_a : extents (setting_of program plan 100000) the_story 0 ≡
    extent 1 [] 0 (Some 17) 14
    ∷ extent 0 (0 ∷ []) 2 (Some 5) 3
    ∷ extent 0 (0 ∷ []) 11 (Some 12) 1 ∷ []
unfolding terms
extents_a = refl

pub open_a_0 : items (setting_of program plan 100000) the_story 0 0 ≡
    Some (Own (event 5 [] (access (Local 1 0) (pos 1) ∷ []) None None None)
    ∷ Own (event 0 [] (access (Local 1 1) (pos 0) ∷ []) None None None)
    ∷ Nested 1 0 (pos 1 ∷ []) true
    ∷ Own (event 3 (access (Local 1 1) (pos 1) ∷ []) (access (Shared 0) (pos 1) ∷ []) None None None)
    ∷ Own (quiet 4)
    ∷ Own (event 6 [] [] None (Some 1) None)
    ∷ Own (event 7 [] (access (Local 1 0) (pos 0) ∷ []) None None None)
    ∷ Own (event 0 [] (access (Local 1 1) (pos 0) ∷ []) None None None)
    ∷ Nested 2 0 (pos 0 ∷ []) true
    ∷ Own (event 3 (access (Local 1 1) (pos 0) ∷ []) (access (Shared 0) (pos 0) ∷ []) None None None)
    ∷ Own (quiet 4)
    ∷ Own (event 8 (access (Shared 0) (pos 0) ∷ []) [] (Some (pos 0)) None None)
    ∷ Own (quiet 9) ∷ [])
unfolding terms
open_a_0 = refl

pub open_a_1 : items (setting_of program plan 100000) the_story 0 1 ≡
    Some (Own (event 1 (access (Local 0 1) (pos 0) ∷ access (Local 0 0) (pos 1) ∷ []) [] (Some (pos 1)) None None)
    ∷ Own (event 2 (access (Local 0 1) (pos 0) ∷ []) (access (Local 0 1) (pos 1) ∷ []) None None None)
    ∷ Own (event 1 (access (Local 0 1) (pos 1) ∷ access (Local 0 0) (pos 1) ∷ []) [] (Some (pos 0)) None None) ∷ [])
unfolding terms
open_a_1 = refl

pub open_a_2 : items (setting_of program plan 100000) the_story 0 2 ≡
    Some (Own (event 1 (access (Local 0 1) (pos 0) ∷ access (Local 0 0) (pos 0) ∷ []) [] (Some (pos 0)) None None) ∷ [])
unfolding terms
open_a_2 = refl

-- the frame that a loop left is one that the process called
pub whys_a_0 : whys (setting_of program plan 100000) the_story 0 0 14 ≡
    Some (control_from Entry ∷ [])
    ∷ Some (control_from (ItemAt 0 0 0) ∷ [])
    ∷ Some (left_from (Local 1 1) (pos 1) (ItemAt 0 1 1) ∷ control_from (ItemAt 0 0 0) ∷ [])
    ∷ Some (read_from (Local 1 1) (pos 1) (ItemAt 0 1 1) ∷ control_from (ItemAt 0 0 0) ∷ [])
    ∷ Some (control_from (ItemAt 0 0 0) ∷ [])
    ∷ Some (control_from Entry ∷ [])
    ∷ Some (control_from Entry ∷ [])
    ∷ Some (control_from (ItemAt 0 0 6) ∷ [])
    ∷ Some (left_from (Local 1 1) (pos 0) (ItemAt 0 0 7) ∷ control_from (ItemAt 0 0 6) ∷ [])
    ∷ Some (read_from (Local 1 1) (pos 0) (ItemAt 0 0 7) ∷ control_from (ItemAt 0 0 6) ∷ [])
    ∷ Some (control_from (ItemAt 0 0 6) ∷ [])
    ∷ Some (read_from (Shared 0) (pos 0) (ItemAt 0 0 9) ∷ control_from Entry ∷ [])
    ∷ Some (control_from Entry ∷ [])
    ∷ None ∷ []
unfolding terms
whys_a_0 = refl

pub whys_a_1 : whys (setting_of program plan 100000) the_story 0 1 4 ≡
    Some (read_from (Local 0 1) (pos 0) (ItemAt 0 0 1) ∷ read_from (Local 0 0) (pos 1) (ItemAt 0 0 0) ∷ control_from (ItemAt 0 0 0) ∷ [])
    ∷ Some (read_from (Local 0 1) (pos 0) (ItemAt 0 0 1) ∷ control_from (ItemAt 0 1 0) ∷ [])
    ∷ Some (read_from (Local 0 1) (pos 1) (ItemAt 0 1 1) ∷ read_from (Local 0 0) (pos 1) (ItemAt 0 0 0) ∷ control_from (ItemAt 0 1 0) ∷ [])
    ∷ None ∷ []
unfolding terms
whys_a_1 = refl

pub whys_a_2 : whys (setting_of program plan 100000) the_story 0 2 2 ≡
    Some (read_from (Local 0 1) (pos 0) (ItemAt 0 0 7) ∷ read_from (Local 0 0) (pos 0) (ItemAt 0 0 6) ∷ control_from (ItemAt 0 0 6) ∷ [])
    ∷ None ∷ []
unfolding terms
whys_a_2 = refl

pub nears_a_0 : nears (setting_of program plan 100000) the_story 0 0 13 ≡ 18 ∷ 18 ∷ 18 ∷ 18 ∷ 18 ∷ 18 ∷ 18 ∷ 18 ∷ 18 ∷ 18 ∷ 18 ∷ 18 ∷ 18 ∷ []
unfolding terms
nears_a_0 = refl

pub nears_a_1 : nears (setting_of program plan 100000) the_story 0 1 3 ≡ 18 ∷ 18 ∷ 18 ∷ []
unfolding terms
nears_a_1 = refl

pub nears_a_2 : nears (setting_of program plan 100000) the_story 0 2 1 ≡ 18 ∷ []
unfolding terms
nears_a_2 = refl

pub final_x : last (setting_of program plan 100000) the_story 0 ≡ (pos 0, ItemAt 0 0 9)
unfolding terms
final_x = refl
