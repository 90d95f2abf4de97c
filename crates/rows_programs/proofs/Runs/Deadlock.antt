-- sem s = 1, t = 1; process a { P(s); P(t); } process b { P(t); P(s); }
use Rattle.ppd_model.specs.Setting.{setting_of}
use Rattle.std.proofs.Common.{◌≡◌, refl}
use Rattle.std.specs.Prelude.{ℕ, zero, suc, pos, true, false, List, [], ◌∷◌, Some, None}
use Rattle.ppd_ast.specs.Term.{terms}
use Rattle.ppd_ast.specs.declared.plan.BlockKind.TheVariants as block
use Rattle.ppd_ast.specs.declared.plan.Plan.{Plan}
use Rattle.ppd_ast.specs.declared.plan.Start.TheVariants as start
use Rattle.ppd_ast.specs.declared.program.Kind.TheVariants as kind
use Rattle.ppd_ast.specs.declared.program.Program.{Program}
use Rattle.ppd_ast.specs.declared.status.Status.TheVariants as status
use Rattle.ppd_ast.specs.declared.status.SyncKind.TheVariants as sync
use Rattle.ppd_model.specs.declared.entry.Entry.TheVariants as entry
use Rattle.ppd_model.specs.declared.flow.Item.TheVariants.{Own}
use Rattle.ppd_model.specs.declared.flow.Origin.TheVariants.{Initial, Entry}
use Rattle.ppd_model.specs.declared.trace.TracedEvent.{TracedEvent}
use Rattle.ppd_model.specs.World.{enabled}
use Rattle.ppd_model.specs.Schedule.{IsWhole, run}
use Rattle.ppd_model.specs.declared.tracing.Story.{Story}
use Rattle.ppd_model.specs.Story.{story, told}
use Rattle.ppd_model.specs.FullTrace.{full_trace}
use Rattle.ppd_model.specs.Record.{accesses, sync_record}
use Rattle.ppd_model.specs.Races.{races}
use Rattle.ppd_model.specs.Logs.{close, closed_logs, kept_logs}
use Rattle.ppd_model.specs.Intervals.{items}
use Rattle.rows_programs.proofs.Runs.Tables.{stmt_in, body_of, block_of, unit_of, event, traced, ended, sync_from, control_from}
use Rattle.rows_programs.proofs.Runs.Showing.{synced, extent, extents, whys, nears}

abbrev pub program : Program
program = record {
  exprs = [];
  stmts =
      stmt_in 0 1 31 None (kind.P 0)
      ∷ stmt_in 0 1 37 None (kind.P 1)
      ∷ stmt_in 0 1 43 None kind.End
      ∷ stmt_in 1 1 57 None (kind.P 1)
      ∷ stmt_in 1 1 63 None (kind.P 0)
      ∷ stmt_in 1 1 69 None kind.End ∷ [];
  bodies = body_of 97 true 0 false [] 0 (0 ∷ 1 ∷ 2 ∷ []) 0 3 ∷ body_of 98 true 0 false [] 0 (3 ∷ 4 ∷ 5 ∷ []) 3 6 ∷ [];
  functions = 0;
  shared = [];
  starts = [];
  sems = record { name = 115 ∷ []; start = 1 } ∷ record { name = 116 ∷ []; start = 1 } ∷ [];
  chans = [];
}

abbrev pub plan : Plan
plan = record {
  policy = record { leaf = 0; loops = 0 };
  blocks = block_of (block.Process 0) [] [] false ∷ block_of (block.Process 1) [] [] false ∷ [];
  units = unit_of (start.Entry 0) [] ∷ unit_of (start.After 0) [] ∷ unit_of (start.After 1) [] ∷ unit_of (start.Entry 1) [] ∷ unit_of (start.After 3) [] ∷ unit_of (start.After 4) [] ∷ [];
}

abbrev pub schedule : List ℕ
schedule = 0 ∷ 1 ∷ []

abbrev pub the_story : Story
the_story = story (setting_of program plan 100000) schedule

nobody : (p : ℕ) → enabled program plan (told (setting_of program plan 100000) schedule).world p ≡ false
unfolding terms
nobody zero = refl
nobody (suc zero) = refl
nobody (suc (suc p)) = refl

pub whole : IsWhole (setting_of program plan 100000) schedule
unfolding terms
whole = record { last = (told (setting_of program plan 100000) schedule).world; runs = refl; over = record { nobody = nobody } }

pub ends : (close (setting_of program plan 100000) schedule).ends ≡ ended status.Blocked 1 1 [] ∷ ended status.Blocked 4 1 [] ∷ []
unfolding terms
ends = refl

abbrev pub events_a : List TracedEvent
events_a =
    traced (event 0 [] [] None (Some 1) None) [] None None ∷ []

abbrev pub events_b : List TracedEvent
events_b =
    traced (event 3 [] [] None (Some 1) None) [] None None ∷ []

pub trace : full_trace (setting_of program plan 100000) (story (setting_of program plan 100000) schedule) ≡ record { events = events_a ∷ events_b ∷ [] }
unfolding terms
trace = refl

pub synchronizations : sync_record (setting_of program plan 100000) schedule ≡ (synced sync.P 0 1 ∷ []) ∷ (synced sync.P 1 1 ∷ []) ∷ []
unfolding terms
synchronizations = refl

pub accesses_a : accesses the_story 0 ≡ []
unfolding terms
accesses_a = refl

pub accesses_b : accesses the_story 1 ≡ []
unfolding terms
accesses_b = refl

pub race_list : races (setting_of program plan 100000) schedule ≡ []
unfolding terms
race_list = refl

pub log : (closed_logs (setting_of program plan 100000) schedule).lists ≡
    (entry.Prelog 0 [] ∷ entry.Unit 0 [] ∷ entry.Sync sync.P 0 1 (pos 0) [] [] ∷ entry.Unit 1 [] ∷ entry.End status.Blocked 0 [] [] ∷ [])
    ∷ (entry.Prelog 1 [] ∷ entry.Unit 3 [] ∷ entry.Sync sync.P 1 1 (pos 0) [] [] ∷ entry.Unit 4 [] ∷ entry.End status.Blocked 0 [] [] ∷ []) ∷ []
unfolding terms
log = refl

pub extents_a : extents (setting_of program plan 100000) the_story 0 ≡
    extent 0 [] 0 None 1 ∷ []
unfolding terms
extents_a = refl

pub extents_b : extents (setting_of program plan 100000) the_story 1 ≡
    extent 1 [] 0 None 1 ∷ []
unfolding terms
extents_b = refl

pub open_a_0 : items (setting_of program plan 100000) the_story 0 0 ≡
    Some (Own (event 0 [] [] None (Some 1) None) ∷ [])
unfolding terms
open_a_0 = refl

pub open_b_0 : items (setting_of program plan 100000) the_story 1 0 ≡
    Some (Own (event 3 [] [] None (Some 1) None) ∷ [])
unfolding terms
open_b_0 = refl

pub whys_a_0 : whys (setting_of program plan 100000) the_story 0 0 2 ≡
    Some (sync_from Initial ∷ control_from Entry ∷ [])
    ∷ None ∷ []
unfolding terms
whys_a_0 = refl

pub whys_b_0 : whys (setting_of program plan 100000) the_story 1 0 2 ≡
    Some (sync_from Initial ∷ control_from Entry ∷ [])
    ∷ None ∷ []
unfolding terms
whys_b_0 = refl

pub nears_a_0 : nears (setting_of program plan 100000) the_story 0 0 1 ≡ 1 ∷ []
unfolding terms
nears_a_0 = refl

pub nears_b_0 : nears (setting_of program plan 100000) the_story 1 0 1 ≡ 1 ∷ []
unfolding terms
nears_b_0 = refl

-- before the run is closed
pub kept : (kept_logs (setting_of program plan 100000) schedule).lists ≡ (entry.Prelog 0 [] ∷ entry.Unit 0 [] ∷ entry.Sync sync.P 0 1 (pos 0) [] [] ∷ entry.Unit 1 [] ∷ []) ∷ (entry.Prelog 1 [] ∷ entry.Unit 3 [] ∷ entry.Sync sync.P 1 1 (pos 0) [] [] ∷ entry.Unit 4 [] ∷ []) ∷ []
unfolding terms
kept = refl

-- after 0 1 process 0 is not enabled, and after 0 alone process 1 is
pub not_enabled : run (setting_of program plan 100000) (0 ∷ 1 ∷ 0 ∷ []) ≡ None
unfolding terms
not_enabled = refl

pub not_whole : enabled program plan (told (setting_of program plan 100000) (0 ∷ [])).world 1 ≡ true
unfolding terms
not_whole = refl
