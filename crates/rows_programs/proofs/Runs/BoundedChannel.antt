-- shared int x; chan c[1]; process a { send(c, 7); send(c, 8); x = 2; } process b { int v; print(x); v = recv(c); v = recv(c); }
use Rattle.ppd_model.specs.Setting.{setting_of}
use Rattle.std.proofs.Common.{◌≡◌, refl}
use Rattle.std.specs.Prelude.{ℕ, zero, suc, pos, true, false, List, [], ◌∷◌, Some, None}
use Rattle.ppd_ast.specs.Term.{terms}
use Rattle.ppd_ast.specs.declared.plan.BlockKind.TheVariants as block
use Rattle.ppd_ast.specs.declared.plan.Plan.{Plan}
use Rattle.ppd_ast.specs.declared.plan.Start.TheVariants as start
use Rattle.ppd_ast.specs.declared.program.Expr.TheVariants as expr
use Rattle.ppd_ast.specs.declared.program.Kind.TheVariants as kind
use Rattle.ppd_ast.specs.declared.program.Program.{Program}
use Rattle.ppd_ast.specs.declared.program.Target.TheVariants as target
use Rattle.ppd_ast.specs.declared.status.Status.TheVariants as status
use Rattle.ppd_ast.specs.declared.status.SyncKind.TheVariants as sync
use Rattle.ppd_model.specs.declared.entry.Entry.TheVariants as entry
use Rattle.ppd_sem.specs.declared.event.Spot.TheVariants.{Local, Shared}
use Rattle.ppd_model.specs.declared.flow.Item.TheVariants.{Own}
use Rattle.ppd_model.specs.declared.flow.Origin.TheVariants.{Initial, Entry, Item as ItemAt}
use Rattle.ppd_model.specs.declared.trace.TracedEvent.{TracedEvent}
use Rattle.ppd_model.specs.World.{enabled}
use Rattle.ppd_model.specs.Schedule.{IsWhole}
use Rattle.ppd_model.specs.declared.tracing.Story.{Story}
use Rattle.ppd_model.specs.Story.{story, told}
use Rattle.ppd_model.specs.FullTrace.{full_trace}
use Rattle.ppd_model.specs.Record.{accesses, sync_record}
use Rattle.ppd_model.specs.Races.{races}
use Rattle.ppd_model.specs.Logs.{close, closed_logs}
use Rattle.ppd_model.specs.Intervals.{items}
use Rattle.ppd_model.specs.FlowbackEdges.{last}
use Rattle.rows_programs.proofs.Runs.Tables.{stmt_in, scalar, body_of, block_of, unit_of, access, event, quiet, id, traced, ended, read_from, sync_from, control_from}
use Rattle.rows_programs.proofs.Runs.Showing.{synced, touched, extent, extents, whys, nears}
use Rattle.rows_programs.proofs.Runs.Every.{outcome, every_whole}

abbrev pub program : Program
program = record {
  exprs = expr.Const (pos 7) ∷ expr.Const (pos 8) ∷ expr.Const (pos 2) ∷ expr.Const (pos 0) ∷ expr.Shared 0 ∷ [];
  stmts =
      stmt_in 0 1 38 None (kind.Send 0 0)
      ∷ stmt_in 0 1 50 None (kind.Send 0 1)
      ∷ stmt_in 0 1 62 None (kind.Set (target.Shared 0) 2)
      ∷ stmt_in 0 1 69 None kind.End
      ∷ stmt_in 1 1 87 None (kind.Set (target.Local 0) 3)
      ∷ stmt_in 1 1 90 None (kind.Print 4)
      ∷ stmt_in 1 1 100 None (kind.Recv 0 0)
      ∷ stmt_in 1 1 113 None (kind.Recv 0 0)
      ∷ stmt_in 1 1 126 None kind.End ∷ [];
  bodies = body_of 97 true 0 false [] 0 (0 ∷ 1 ∷ 2 ∷ 3 ∷ []) 0 4 ∷ body_of 98 true 0 false (scalar 118 0 ∷ []) 1 (4 ∷ 5 ∷ 6 ∷ 7 ∷ 8 ∷ []) 4 9 ∷ [];
  functions = 0;
  shared = scalar 120 0 ∷ [];
  starts = pos 0 ∷ [];
  sems = [];
  chans = record { name = 99 ∷ []; capacity = 1 } ∷ [];
}

abbrev pub plan : Plan
plan = record {
  policy = record { leaf = 0; loops = 0 };
  blocks = block_of (block.Process 0) [] [] false ∷ block_of (block.Process 1) [] [] false ∷ [];
  units = unit_of (start.Entry 0) [] ∷ unit_of (start.After 0) [] ∷ unit_of (start.After 1) [] ∷ unit_of (start.Entry 1) (0 ∷ []) ∷ unit_of (start.After 6) [] ∷ unit_of (start.After 7) [] ∷ [];
}

abbrev pub schedule : List ℕ
schedule = 0 ∷ 1 ∷ 1 ∷ 1 ∷ 1 ∷ 0 ∷ 0 ∷ 0 ∷ 1 ∷ 1 ∷ []

abbrev pub the_story : Story
the_story = story (setting_of program plan 100000) schedule

nobody : (p : ℕ) → enabled program plan (told (setting_of program plan 100000) schedule).world p ≡ false
unfolding terms
nobody zero = refl
nobody (suc zero) = refl
nobody (suc (suc p)) = refl

pub whole : IsWhole (setting_of program plan 100000) schedule
unfolding terms
whole = record { last = (told (setting_of program plan 100000) schedule).world; runs = refl; over = record { nobody = nobody } }

pub ends : (close (setting_of program plan 100000) schedule).ends ≡ ended status.Ended 3 4 [] ∷ ended status.Ended 8 6 (pos 0 ∷ []) ∷ []
unfolding terms
ends = refl

abbrev pub events_a : List TracedEvent
events_a =
    traced (event 0 [] [] (Some (pos 7)) (Some 1) None) [] None None
    ∷ traced (event 1 [] [] (Some (pos 8)) (Some 2) None) [] None (Some (id 1 2))
    ∷ traced (event 2 [] (access (Shared 0) (pos 2) ∷ []) None None None) [] None None
    ∷ traced (quiet 3) [] None None ∷ []

abbrev pub events_b : List TracedEvent
events_b =
    traced (event 4 [] (access (Local 0 0) (pos 0) ∷ []) None None None) [] None None
    ∷ traced (event 5 (access (Shared 0) (pos 0) ∷ []) [] (Some (pos 0)) None None) (None ∷ []) None None
    ∷ traced (event 6 [] (access (Local 0 0) (pos 7) ∷ []) None (Some 1) None) [] None (Some (id 0 0))
    ∷ traced (event 7 [] (access (Local 0 0) (pos 8) ∷ []) None (Some 2) None) [] None (Some (id 0 1))
    ∷ traced (quiet 8) [] None None ∷ []

pub trace : full_trace (setting_of program plan 100000) (story (setting_of program plan 100000) schedule) ≡ record { events = events_a ∷ events_b ∷ [] }
unfolding terms
trace = refl

pub synchronizations : sync_record (setting_of program plan 100000) schedule ≡ (synced sync.Send 0 1 ∷ synced sync.Send 0 2 ∷ []) ∷ (synced sync.Recv 0 1 ∷ synced sync.Recv 0 2 ∷ []) ∷ []
unfolding terms
synchronizations = refl

pub accesses_a : accesses the_story 0 ≡ touched 2 0 true ∷ []
unfolding terms
accesses_a = refl

pub accesses_b : accesses the_story 1 ≡ touched 0 0 false ∷ []
unfolding terms
accesses_b = refl

pub race_list : races (setting_of program plan 100000) schedule ≡ []
unfolding terms
race_list = refl

pub log : (closed_logs (setting_of program plan 100000) schedule).lists ≡
    (entry.Prelog 0 [] ∷ entry.Unit 0 [] ∷ entry.Sync sync.Send 0 1 (pos 7) [] [] ∷ entry.Unit 1 [] ∷ entry.Sync sync.Send 0 2 (pos 8) [] [] ∷ entry.Unit 2 [] ∷ entry.Postlog 0 [] ∷ entry.End status.Ended 1 [] (0 ∷ []) ∷ [])
    ∷ (entry.Prelog 1 [] ∷ entry.Unit 3 (pos 0 ∷ []) ∷ entry.Sync sync.Recv 0 1 (pos 7) (0 ∷ []) [] ∷ entry.Unit 4 [] ∷ entry.Sync sync.Recv 0 2 (pos 8) [] [] ∷ entry.Unit 5 [] ∷ entry.Postlog 1 [] ∷ entry.End status.Ended 0 [] [] ∷ []) ∷ []
unfolding terms
log = refl

pub extents_a : extents (setting_of program plan 100000) the_story 0 ≡
    extent 0 [] 0 (Some 3) 4 ∷ []
unfolding terms
extents_a = refl

pub extents_b : extents (setting_of program plan 100000) the_story 1 ≡
    extent 1 [] 0 (Some 5) 6 ∷ []
unfolding terms
extents_b = refl

pub open_a_0 : items (setting_of program plan 100000) the_story 0 0 ≡
    Some (Own (event 0 [] [] (Some (pos 7)) (Some 1) None)
    ∷ Own (event 1 [] [] (Some (pos 8)) (Some 2) None)
    ∷ Own (event 2 [] (access (Shared 0) (pos 2) ∷ []) None None None)
    ∷ Own (quiet 3) ∷ [])
unfolding terms
open_a_0 = refl

pub open_b_0 : items (setting_of program plan 100000) the_story 1 0 ≡
    Some (Own (event 4 [] (access (Local 0 0) (pos 0) ∷ []) None None None)
    ∷ Own (event 5 (access (Shared 0) (pos 0) ∷ []) [] (Some (pos 0)) None None)
    ∷ Own (event 6 [] (access (Local 0 0) (pos 7) ∷ []) None (Some 1) None)
    ∷ Own (event 7 [] (access (Local 0 0) (pos 8) ∷ []) None (Some 2) None)
    ∷ Own (quiet 8) ∷ [])
unfolding terms
open_b_0 = refl

-- send 2 waits for receive 1, which orders the read before the write
pub whys_a_0 : whys (setting_of program plan 100000) the_story 0 0 5 ≡
    Some (control_from Entry ∷ [])
    ∷ Some (sync_from (ItemAt 1 0 2) ∷ control_from Entry ∷ [])
    ∷ Some (control_from Entry ∷ [])
    ∷ Some (control_from Entry ∷ [])
    ∷ None ∷ []
unfolding terms
whys_a_0 = refl

pub whys_b_0 : whys (setting_of program plan 100000) the_story 1 0 6 ≡
    Some (control_from Entry ∷ [])
    ∷ Some (read_from (Shared 0) (pos 0) Initial ∷ control_from Entry ∷ [])
    ∷ Some (sync_from (ItemAt 0 0 0) ∷ control_from Entry ∷ [])
    ∷ Some (sync_from (ItemAt 0 0 1) ∷ control_from Entry ∷ [])
    ∷ Some (control_from Entry ∷ [])
    ∷ None ∷ []
unfolding terms
whys_b_0 = refl

pub nears_a_0 : nears (setting_of program plan 100000) the_story 0 0 4 ≡ 4 ∷ 10 ∷ 4 ∷ 4 ∷ []
unfolding terms
nears_a_0 = refl

pub nears_b_0 : nears (setting_of program plan 100000) the_story 1 0 5 ≡ 6 ∷ 6 ∷ 10 ∷ 10 ∷ 6 ∷ []
unfolding terms
nears_b_0 = refl

pub final_x : last (setting_of program plan 100000) the_story 0 ≡ (pos 2, ItemAt 0 0 2)
unfolding terms
final_x = refl

-- every schedule ends so, with these races
pub every : (h : List ℕ) → IsWhole (setting_of program plan 100000) h → outcome (setting_of program plan 100000) h ≡ (ended status.Ended 3 4 [] ∷ ended status.Ended 8 6 (pos 0 ∷ []) ∷ [], [])
unfolding terms
every h whole = every_whole program plan 100000 11 24 (outcome (setting_of program plan 100000)) _ refl refl h whole
