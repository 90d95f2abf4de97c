-- shared int a[2]; process p { a[0] = 1; } process q { a[1] = 2; }
use Rattle.ppd_model.specs.Setting.{setting_of}
use Rattle.std.proofs.Common.{◌≡◌, refl}
use Rattle.std.specs.Prelude.{ℕ, zero, suc, pos, true, false, List, [], ◌∷◌, Some, None}
use Rattle.ppd_ast.specs.Term.{terms}
use Rattle.ppd_ast.specs.declared.plan.BlockKind.TheVariants as block
use Rattle.ppd_ast.specs.declared.plan.Plan.{Plan}
use Rattle.ppd_ast.specs.declared.plan.Start.TheVariants as start
use Rattle.ppd_ast.specs.declared.program.Expr.TheVariants as expr
use Rattle.ppd_ast.specs.declared.program.Kind.TheVariants as kind
use Rattle.ppd_ast.specs.declared.program.Program.{Program}
use Rattle.ppd_ast.specs.declared.program.Target.TheVariants as target
use Rattle.ppd_ast.specs.declared.status.Status.TheVariants as status
use Rattle.ppd_model.specs.declared.entry.Entry.TheVariants as entry
use Rattle.ppd_sem.specs.declared.event.Spot.TheVariants.{Shared}
use Rattle.ppd_model.specs.declared.flow.Item.TheVariants.{Own}
use Rattle.ppd_model.specs.declared.flow.Origin.TheVariants.{Entry, Item as ItemAt}
use Rattle.ppd_model.specs.declared.trace.TracedEvent.{TracedEvent}
use Rattle.ppd_model.specs.World.{enabled}
use Rattle.ppd_model.specs.Schedule.{IsWhole}
use Rattle.ppd_model.specs.declared.tracing.Story.{Story}
use Rattle.ppd_model.specs.Story.{story, told}
use Rattle.ppd_model.specs.FullTrace.{full_trace}
use Rattle.ppd_model.specs.Record.{accesses, sync_record}
use Rattle.ppd_model.specs.Races.{races}
use Rattle.ppd_model.specs.Logs.{close, closed_logs}
use Rattle.ppd_model.specs.Intervals.{items}
use Rattle.ppd_model.specs.FlowbackEdges.{last}
use Rattle.rows_programs.proofs.Runs.Tables.{stmt_in, array, body_of, block_of, unit_of, access, event, quiet, traced, ended, control_from}
use Rattle.rows_programs.proofs.Runs.Showing.{touched, extent, extents, whys, nears}
use Rattle.rows_programs.proofs.Runs.Every.{outcome, every_whole}

abbrev pub program : Program
program = record {
  exprs = expr.Const (pos 0) ∷ expr.Const (pos 1) ∷ expr.Const (pos 1) ∷ expr.Const (pos 2) ∷ [];
  stmts =
      stmt_in 0 1 30 None (kind.Set (target.SharedAt 0 2 0) 1)
      ∷ stmt_in 0 1 40 None kind.End
      ∷ stmt_in 1 1 54 None (kind.Set (target.SharedAt 0 2 2) 3)
      ∷ stmt_in 1 1 64 None kind.End ∷ [];
  bodies = body_of 112 true 0 false [] 0 (0 ∷ 1 ∷ []) 0 2 ∷ body_of 113 true 0 false [] 0 (2 ∷ 3 ∷ []) 2 4 ∷ [];
  functions = 0;
  shared = array 97 0 2 ∷ [];
  starts = pos 0 ∷ pos 0 ∷ [];
  sems = [];
  chans = [];
}

abbrev pub plan : Plan
plan = record {
  policy = record { leaf = 0; loops = 0 };
  blocks = block_of (block.Process 0) [] [] false ∷ block_of (block.Process 1) [] [] false ∷ [];
  units = unit_of (start.Entry 0) [] ∷ unit_of (start.Entry 1) [] ∷ [];
}

abbrev pub schedule : List ℕ
schedule = 0 ∷ 0 ∷ 1 ∷ 1 ∷ []

abbrev pub the_story : Story
the_story = story (setting_of program plan 100000) schedule

nobody : (p : ℕ) → enabled program plan (told (setting_of program plan 100000) schedule).world p ≡ false
unfolding terms
nobody zero = refl
nobody (suc zero) = refl
nobody (suc (suc p)) = refl

pub whole : IsWhole (setting_of program plan 100000) schedule
unfolding terms
whole = record { last = (told (setting_of program plan 100000) schedule).world; runs = refl; over = record { nobody = nobody } }

pub ends : (close (setting_of program plan 100000) schedule).ends ≡ ended status.Ended 1 2 [] ∷ ended status.Ended 3 2 [] ∷ []
unfolding terms
ends = refl

abbrev pub events_p : List TracedEvent
events_p =
    traced (event 0 [] (access (Shared 0) (pos 1) ∷ []) None None None) [] None None
    ∷ traced (quiet 1) [] None None ∷ []

abbrev pub events_q : List TracedEvent
events_q =
    traced (event 2 [] (access (Shared 1) (pos 2) ∷ []) None None None) [] None None
    ∷ traced (quiet 3) [] None None ∷ []

pub trace : full_trace (setting_of program plan 100000) (story (setting_of program plan 100000) schedule) ≡ record { events = events_p ∷ events_q ∷ [] }
unfolding terms
trace = refl

pub synchronizations : sync_record (setting_of program plan 100000) schedule ≡ [] ∷ [] ∷ []
unfolding terms
synchronizations = refl

pub accesses_p : accesses the_story 0 ≡ touched 0 0 true ∷ []
unfolding terms
accesses_p = refl

pub accesses_q : accesses the_story 1 ≡ touched 0 1 true ∷ []
unfolding terms
accesses_q = refl

pub race_list : races (setting_of program plan 100000) schedule ≡ []
unfolding terms
race_list = refl

pub log : (closed_logs (setting_of program plan 100000) schedule).lists ≡
    (entry.Prelog 0 [] ∷ entry.Unit 0 [] ∷ entry.Postlog 0 [] ∷ entry.End status.Ended 1 [] (0 ∷ []) ∷ [])
    ∷ (entry.Prelog 1 [] ∷ entry.Unit 1 [] ∷ entry.Postlog 1 [] ∷ entry.End status.Ended 1 [] (1 ∷ []) ∷ []) ∷ []
unfolding terms
log = refl

pub extents_p : extents (setting_of program plan 100000) the_story 0 ≡
    extent 0 [] 0 (Some 1) 2 ∷ []
unfolding terms
extents_p = refl

pub extents_q : extents (setting_of program plan 100000) the_story 1 ≡
    extent 1 [] 0 (Some 1) 2 ∷ []
unfolding terms
extents_q = refl

pub open_p_0 : items (setting_of program plan 100000) the_story 0 0 ≡
    Some (Own (event 0 [] (access (Shared 0) (pos 1) ∷ []) None None None)
    ∷ Own (quiet 1) ∷ [])
unfolding terms
open_p_0 = refl

pub open_q_0 : items (setting_of program plan 100000) the_story 1 0 ≡
    Some (Own (event 2 [] (access (Shared 1) (pos 2) ∷ []) None None None)
    ∷ Own (quiet 3) ∷ [])
unfolding terms
open_q_0 = refl

pub whys_p_0 : whys (setting_of program plan 100000) the_story 0 0 3 ≡
    Some (control_from Entry ∷ [])
    ∷ Some (control_from Entry ∷ [])
    ∷ None ∷ []
unfolding terms
whys_p_0 = refl

pub whys_q_0 : whys (setting_of program plan 100000) the_story 1 0 3 ≡
    Some (control_from Entry ∷ [])
    ∷ Some (control_from Entry ∷ [])
    ∷ None ∷ []
unfolding terms
whys_q_0 = refl

pub nears_p_0 : nears (setting_of program plan 100000) the_story 0 0 2 ≡ 2 ∷ 2 ∷ []
unfolding terms
nears_p_0 = refl

pub nears_q_0 : nears (setting_of program plan 100000) the_story 1 0 2 ≡ 2 ∷ 2 ∷ []
unfolding terms
nears_q_0 = refl

pub final_a_0 : last (setting_of program plan 100000) the_story 0 ≡ (pos 1, ItemAt 0 0 0)
unfolding terms
final_a_0 = refl

pub final_a_1 : last (setting_of program plan 100000) the_story 1 ≡ (pos 2, ItemAt 1 0 0)
unfolding terms
final_a_1 = refl

-- every schedule ends so, with these races
pub every : (h : List ℕ) → IsWhole (setting_of program plan 100000) h → outcome (setting_of program plan 100000) h ≡ (ended status.Ended 1 2 [] ∷ ended status.Ended 3 2 [] ∷ [], [])
unfolding terms
every h whole = every_whole program plan 100000 5 6 (outcome (setting_of program plan 100000)) _ refl refl h whole
