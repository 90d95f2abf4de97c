-- shared int x; chan c[0]; process a { send(c, 7); x = 2; } process b { int v; print(x); v = recv(c); }
use Rattle.ppd_model.specs.Setting.{setting_of}
use Rattle.std.proofs.Common.{◌≡◌, refl}
use Rattle.std.specs.Prelude.{ℕ, zero, suc, pos, true, false, List, [], ◌∷◌, Some, None}
use Rattle.ppd_ast.specs.Term.{terms}
use Rattle.ppd_ast.specs.declared.plan.BlockKind.TheVariants as block
use Rattle.ppd_ast.specs.declared.plan.Plan.{Plan}
use Rattle.ppd_ast.specs.declared.plan.Start.TheVariants as start
use Rattle.ppd_ast.specs.declared.program.Expr.TheVariants as expr
use Rattle.ppd_ast.specs.declared.program.Kind.TheVariants as kind
use Rattle.ppd_ast.specs.declared.program.Program.{Program}
use Rattle.ppd_ast.specs.declared.program.Target.TheVariants as target
use Rattle.ppd_ast.specs.declared.status.Status.TheVariants as status
use Rattle.ppd_ast.specs.declared.status.SyncKind.TheVariants as sync
use Rattle.ppd_model.specs.declared.entry.Entry.TheVariants as entry
use Rattle.ppd_sem.specs.declared.event.Spot.TheVariants.{Local, Shared}
use Rattle.ppd_model.specs.declared.flow.Origin.TheVariants.{Entry, Item as ItemAt}
use Rattle.ppd_model.specs.declared.trace.TracedEvent.{TracedEvent}
use Rattle.ppd_model.specs.declared.graph.RaceKind.TheVariants.{WriteRead}
use Rattle.ppd_model.specs.World.{enabled}
use Rattle.ppd_model.specs.Schedule.{IsWhole}
use Rattle.ppd_model.specs.declared.tracing.Story.{Story}
use Rattle.ppd_model.specs.Story.{story, told}
use Rattle.ppd_model.specs.FullTrace.{full_trace}
use Rattle.ppd_model.specs.Record.{accesses, sync_record}
use Rattle.ppd_model.specs.Races.{race, races}
use Rattle.ppd_model.specs.Logs.{close, closed_logs}
use Rattle.ppd_model.specs.FlowbackEdges.{last}
use Rattle.rows_programs.proofs.Runs.Tables.{stmt_in, scalar, body_of, block_of, unit_of, access, event, quiet, id, traced, ended, sync_from, control_from}
use Rattle.rows_programs.proofs.Runs.Showing.{synced, touched, whys}
use Rattle.rows_programs.proofs.Runs.Every.{outcome, every_whole}

abbrev pub program : Program
program = record {
  exprs = expr.Const (pos 7) ∷ expr.Const (pos 2) ∷ expr.Const (pos 0) ∷ expr.Shared 0 ∷ [];
  stmts =
      stmt_in 0 1 38 None (kind.Send 0 0)
      ∷ stmt_in 0 1 50 None (kind.Set (target.Shared 0) 1)
      ∷ stmt_in 0 1 57 None kind.End
      ∷ stmt_in 1 1 75 None (kind.Set (target.Local 0) 2)
      ∷ stmt_in 1 1 78 None (kind.Print 3)
      ∷ stmt_in 1 1 88 None (kind.Recv 0 0)
      ∷ stmt_in 1 1 101 None kind.End ∷ [];
  bodies = body_of 97 true 0 false [] 0 (0 ∷ 1 ∷ 2 ∷ []) 0 3 ∷ body_of 98 true 0 false (scalar 118 0 ∷ []) 1 (3 ∷ 4 ∷ 5 ∷ 6 ∷ []) 3 7 ∷ [];
  functions = 0;
  shared = scalar 120 0 ∷ [];
  starts = pos 0 ∷ [];
  sems = [];
  chans = record { name = 99 ∷ []; capacity = 0 } ∷ [];
}

abbrev pub plan : Plan
plan = record {
  policy = record { leaf = 0; loops = 0 };
  blocks = block_of (block.Process 0) [] [] false ∷ block_of (block.Process 1) [] [] false ∷ [];
  units = unit_of (start.Entry 0) [] ∷ unit_of (start.After 0) [] ∷ unit_of (start.Entry 1) (0 ∷ []) ∷ unit_of (start.After 5) [] ∷ [];
}

abbrev pub schedule : List ℕ
schedule = 0 ∷ 1 ∷ 1 ∷ 1 ∷ 1 ∷ 0 ∷ 0 ∷ 0 ∷ 1 ∷ []

abbrev pub the_story : Story
the_story = story (setting_of program plan 100000) schedule

nobody : (p : ℕ) → enabled program plan (told (setting_of program plan 100000) schedule).world p ≡ false
unfolding terms
nobody zero = refl
nobody (suc zero) = refl
nobody (suc (suc p)) = refl

pub whole : IsWhole (setting_of program plan 100000) schedule
unfolding terms
whole = record { last = (told (setting_of program plan 100000) schedule).world; runs = refl; over = record { nobody = nobody } }

-- the completion waits for the receive
pub waits : enabled program plan (told (setting_of program plan 100000) (0 ∷ [])).world 0 ≡ false
unfolding terms
waits = refl

pub ends : (close (setting_of program plan 100000) schedule).ends ≡ ended status.Ended 2 4 [] ∷ ended status.Ended 6 5 (pos 0 ∷ []) ∷ []
unfolding terms
ends = refl

abbrev pub events_a : List TracedEvent
events_a =
    traced (event 0 [] [] (Some (pos 7)) (Some 1) None) [] None None
    ∷ traced (event 0 [] [] None (Some 1) None) [] None (Some (id 1 2))
    ∷ traced (event 1 [] (access (Shared 0) (pos 2) ∷ []) None None None) [] None None
    ∷ traced (quiet 2) [] None None ∷ []

abbrev pub events_b : List TracedEvent
events_b =
    traced (event 3 [] (access (Local 0 0) (pos 0) ∷ []) None None None) [] None None
    ∷ traced (event 4 (access (Shared 0) (pos 0) ∷ []) [] (Some (pos 0)) None None) (None ∷ []) None None
    ∷ traced (event 5 [] (access (Local 0 0) (pos 7) ∷ []) None (Some 1) None) [] None (Some (id 0 0))
    ∷ traced (quiet 6) [] None None ∷ []

pub trace : full_trace (setting_of program plan 100000) (story (setting_of program plan 100000) schedule) ≡ record { events = events_a ∷ events_b ∷ [] }
unfolding terms
trace = refl

pub synchronizations : sync_record (setting_of program plan 100000) schedule ≡ (synced sync.Send 0 1 ∷ synced sync.Done 0 1 ∷ []) ∷ (synced sync.Recv 0 1 ∷ []) ∷ []
unfolding terms
synchronizations = refl

pub accesses_a : accesses the_story 0 ≡ touched 2 0 true ∷ []
unfolding terms
accesses_a = refl

pub accesses_b : accesses the_story 1 ≡ touched 0 0 false ∷ []
unfolding terms
accesses_b = refl

pub race_list : races (setting_of program plan 100000) schedule ≡ []
unfolding terms
race_list = refl

-- no unit starts after the offer
pub log : (closed_logs (setting_of program plan 100000) schedule).lists ≡
    (entry.Prelog 0 [] ∷ entry.Unit 0 [] ∷ entry.Sync sync.Send 0 1 (pos 7) [] [] ∷ entry.Sync sync.Done 0 1 (pos 0) [] [] ∷ entry.Unit 1 [] ∷ entry.Postlog 0 [] ∷ entry.End status.Ended 1 [] (0 ∷ []) ∷ [])
    ∷ (entry.Prelog 1 [] ∷ entry.Unit 2 (pos 0 ∷ []) ∷ entry.Sync sync.Recv 0 1 (pos 7) (0 ∷ []) [] ∷ entry.Unit 3 [] ∷ entry.Postlog 1 [] ∷ entry.End status.Ended 0 [] [] ∷ []) ∷ []
unfolding terms
log = refl

pub whys_a_0 : whys (setting_of program plan 100000) the_story 0 0 5 ≡
    Some (control_from Entry ∷ [])
    ∷ Some (sync_from (ItemAt 1 0 2) ∷ control_from Entry ∷ [])
    ∷ Some (control_from Entry ∷ [])
    ∷ Some (control_from Entry ∷ [])
    ∷ None ∷ []
unfolding terms
whys_a_0 = refl

pub final_x : last (setting_of program plan 100000) the_story 0 ≡ (pos 2, ItemAt 0 0 2)
unfolding terms
final_x = refl

-- every schedule ends so, with no race
pub every : (h : List ℕ) → IsWhole (setting_of program plan 100000) h → outcome (setting_of program plan 100000) h ≡ (ended status.Ended 2 4 [] ∷ ended status.Ended 6 5 (pos 0 ∷ []) ∷ [], [])
unfolding terms
every h whole = every_whole program plan 100000 10 16 (outcome (setting_of program plan 100000)) _ refl refl h whole

-- ---- with capacity 1

abbrev pub buffered : Program
buffered = record program { chans = record { name = 99 ∷ []; capacity = 1 } ∷ [] }

-- every schedule has the one race
pub every_buffered : (h : List ℕ) → IsWhole (setting_of buffered plan 100000) h → races (setting_of buffered plan 100000) h ≡ race 0 1 1 0 0 WriteRead ∷ []
unfolding terms
every_buffered h whole = every_whole buffered plan 100000 9 52 (races (setting_of buffered plan 100000)) _ refl refl h whole
