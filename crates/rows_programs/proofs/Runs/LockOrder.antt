-- shared int x; sem m = 1; process a { P(m); x = x + 1; V(m); } process b { P(m); x = x + 1; V(m); }
use Rattle.ppd_model.specs.Setting.{setting_of}
use Rattle.std.proofs.Common.{◌≡◌, refl, ap, arith}
use Rattle.std.specs.Prelude.{ℕ, zero, suc, pos, true, false, List, [], ◌∷◌, Some, None}
use Rattle.ppd_ast.specs.Term.{terms}
use Rattle.ppd_ast.specs.declared.plan.BlockKind.TheVariants as block
use Rattle.ppd_ast.specs.declared.plan.Plan.{Plan}
use Rattle.ppd_ast.specs.declared.plan.Start.TheVariants as start
use Rattle.ppd_ast.specs.declared.program.Expr.TheVariants as expr
use Rattle.ppd_ast.specs.declared.program.Kind.TheVariants as kind
use Rattle.ppd_ast.specs.declared.program.Op.TheVariants as op
use Rattle.ppd_ast.specs.declared.program.Program.{Program}
use Rattle.ppd_ast.specs.declared.program.Target.TheVariants as target
use Rattle.ppd_ast.specs.declared.status.Status.TheVariants as status
use Rattle.ppd_ast.specs.declared.status.SyncKind.TheVariants as sync
use Rattle.ppd_model.specs.declared.entry.Entry.TheVariants as entry
use Rattle.ppd_sem.specs.declared.event.Spot.TheVariants.{Shared}
use Rattle.ppd_model.specs.declared.flow.Item.TheVariants.{Own}
use Rattle.ppd_model.specs.declared.flow.Origin.TheVariants.{Initial, Entry, Item as ItemAt}
use Rattle.ppd_model.specs.declared.trace.TracedEvent.{TracedEvent}
use Rattle.ppd_model.specs.World.{enabled}
use Rattle.ppd_model.specs.Schedule.{IsWhole}
use Rattle.ppd_model.specs.declared.tracing.Story.{Story}
use Rattle.ppd_model.specs.Story.{story, told}
use Rattle.ppd_model.specs.FullTrace.{full_trace}
use Rattle.ppd_model.specs.Synchronizations.{Sync}
use Rattle.ppd_model.specs.Record.{accesses, sync_record}
use Rattle.ppd_model.specs.Races.{races}
use Rattle.ppd_model.specs.Agreement.{Agree}
use Rattle.ppd_model.specs.Logs.{close, closed_logs}
use Rattle.ppd_model.specs.Intervals.{items}
use Rattle.ppd_model.specs.FlowbackEdges.{last}
use Rattle.rows_programs.proofs.Runs.Tables.{stmt_in, scalar, body_of, block_of, unit_of, access, event, quiet, id, traced, ended, read_from, sync_from, control_from}
use Rattle.rows_programs.proofs.Runs.Showing.{synced, touched, extent, extents, whys, nears}
use Rattle.rows_programs.proofs.Runs.Every.{outcome, every_whole}

abbrev pub program : Program
program = record {
  exprs = expr.Shared 0 ∷ expr.Const (pos 1) ∷ expr.Two op.Add 0 1 ∷ expr.Shared 0 ∷ expr.Const (pos 1) ∷ expr.Two op.Add 3 4 ∷ [];
  stmts =
      stmt_in 0 1 38 None (kind.P 0)
      ∷ stmt_in 0 1 44 None (kind.Set (target.Shared 0) 2)
      ∷ stmt_in 0 1 55 None (kind.V 0)
      ∷ stmt_in 0 1 61 None kind.End
      ∷ stmt_in 1 1 75 None (kind.P 0)
      ∷ stmt_in 1 1 81 None (kind.Set (target.Shared 0) 5)
      ∷ stmt_in 1 1 92 None (kind.V 0)
      ∷ stmt_in 1 1 98 None kind.End ∷ [];
  bodies = body_of 97 true 0 false [] 0 (0 ∷ 1 ∷ 2 ∷ 3 ∷ []) 0 4 ∷ body_of 98 true 0 false [] 0 (4 ∷ 5 ∷ 6 ∷ 7 ∷ []) 4 8 ∷ [];
  functions = 0;
  shared = scalar 120 0 ∷ [];
  starts = pos 0 ∷ [];
  sems = record { name = 109 ∷ []; start = 1 } ∷ [];
  chans = [];
}

abbrev pub plan : Plan
plan = record {
  policy = record { leaf = 0; loops = 0 };
  blocks = block_of (block.Process 0) [] [] false ∷ block_of (block.Process 1) [] [] false ∷ [];
  units = unit_of (start.Entry 0) [] ∷ unit_of (start.After 0) (0 ∷ []) ∷ unit_of (start.After 2) [] ∷ unit_of (start.Entry 1) [] ∷ unit_of (start.After 4) (0 ∷ []) ∷ unit_of (start.After 6) [] ∷ [];
}

abbrev pub first : List ℕ
first = 0 ∷ 0 ∷ 0 ∷ 0 ∷ 0 ∷ 1 ∷ 1 ∷ 1 ∷ 1 ∷ 1 ∷ []

abbrev pub story_first : Story
story_first = story (setting_of program plan 100000) first

nobody_first : (p : ℕ) → enabled program plan (told (setting_of program plan 100000) first).world p ≡ false
unfolding terms
nobody_first zero = refl
nobody_first (suc zero) = refl
nobody_first (suc (suc p)) = refl

pub whole_first : IsWhole (setting_of program plan 100000) first
unfolding terms
whole_first = record { last = (told (setting_of program plan 100000) first).world; runs = refl; over = record { nobody = nobody_first } }

pub ends_first : (close (setting_of program plan 100000) first).ends ≡ ended status.Ended 3 5 [] ∷ ended status.Ended 7 5 [] ∷ []
unfolding terms
ends_first = refl

abbrev pub events_a_first : List TracedEvent
events_a_first =
    traced (event 0 [] [] None (Some 1) None) [] None None
    ∷ traced (event 1 (access (Shared 0) (pos 0) ∷ []) (access (Shared 0) (pos 1) ∷ []) None None None) (None ∷ []) None None
    ∷ traced (event 2 [] [] None (Some 2) None) [] None None
    ∷ traced (quiet 3) [] None None ∷ []

abbrev pub events_b_first : List TracedEvent
events_b_first =
    traced (event 4 [] [] None (Some 2) None) [] None (Some (id 0 2))
    ∷ traced (event 5 (access (Shared 0) (pos 1) ∷ []) (access (Shared 0) (pos 2) ∷ []) None None None) (Some (id 0 1) ∷ []) None None
    ∷ traced (event 6 [] [] None (Some 3) None) [] None None
    ∷ traced (quiet 7) [] None None ∷ []

pub trace_first : full_trace (setting_of program plan 100000) (story (setting_of program plan 100000) first) ≡ record { events = events_a_first ∷ events_b_first ∷ [] }
unfolding terms
trace_first = refl

pub synchronizations_first : sync_record (setting_of program plan 100000) first ≡ (synced sync.P 0 1 ∷ synced sync.V 0 2 ∷ []) ∷ (synced sync.P 0 2 ∷ synced sync.V 0 3 ∷ []) ∷ []
unfolding terms
synchronizations_first = refl

pub accesses_a_first : accesses story_first 0 ≡ touched 1 0 false ∷ touched 1 0 true ∷ []
unfolding terms
accesses_a_first = refl

pub accesses_b_first : accesses story_first 1 ≡ touched 1 0 false ∷ touched 1 0 true ∷ []
unfolding terms
accesses_b_first = refl

pub races_first : races (setting_of program plan 100000) first ≡ []
unfolding terms
races_first = refl

pub logs_first : (closed_logs (setting_of program plan 100000) first).lists ≡
    (entry.Prelog 0 [] ∷ entry.Unit 0 [] ∷ entry.Sync sync.P 0 1 (pos 0) [] [] ∷ entry.Unit 1 (pos 0 ∷ []) ∷ entry.Sync sync.V 0 2 (pos 0) (0 ∷ []) (0 ∷ []) ∷ entry.Unit 2 [] ∷ entry.Postlog 0 [] ∷ entry.End status.Ended 0 [] [] ∷ [])
    ∷ (entry.Prelog 1 [] ∷ entry.Unit 3 [] ∷ entry.Sync sync.P 0 2 (pos 0) [] [] ∷ entry.Unit 4 (pos 1 ∷ []) ∷ entry.Sync sync.V 0 3 (pos 0) (0 ∷ []) (0 ∷ []) ∷ entry.Unit 5 [] ∷ entry.Postlog 1 [] ∷ entry.End status.Ended 0 [] [] ∷ []) ∷ []
unfolding terms
logs_first = refl

pub extents_a_first : extents (setting_of program plan 100000) story_first 0 ≡
    extent 0 [] 0 (Some 4) 5 ∷ []
unfolding terms
extents_a_first = refl

pub extents_b_first : extents (setting_of program plan 100000) story_first 1 ≡
    extent 1 [] 0 (Some 4) 5 ∷ []
unfolding terms
extents_b_first = refl

pub open_a_0_first : items (setting_of program plan 100000) story_first 0 0 ≡
    Some (Own (event 0 [] [] None (Some 1) None)
    ∷ Own (event 1 (access (Shared 0) (pos 0) ∷ []) (access (Shared 0) (pos 1) ∷ []) None None None)
    ∷ Own (event 2 [] [] None (Some 2) None)
    ∷ Own (quiet 3) ∷ [])
unfolding terms
open_a_0_first = refl

pub open_b_0_first : items (setting_of program plan 100000) story_first 1 0 ≡
    Some (Own (event 4 [] [] None (Some 2) None)
    ∷ Own (event 5 (access (Shared 0) (pos 1) ∷ []) (access (Shared 0) (pos 2) ∷ []) None None None)
    ∷ Own (event 6 [] [] None (Some 3) None)
    ∷ Own (quiet 7) ∷ [])
unfolding terms
open_b_0_first = refl

pub whys_a_0_first : whys (setting_of program plan 100000) story_first 0 0 5 ≡
    Some (sync_from Initial ∷ control_from Entry ∷ [])
    ∷ Some (read_from (Shared 0) (pos 0) Initial ∷ control_from Entry ∷ [])
    ∷ Some (control_from Entry ∷ [])
    ∷ Some (control_from Entry ∷ [])
    ∷ None ∷ []
unfolding terms
whys_a_0_first = refl

pub whys_b_0_first : whys (setting_of program plan 100000) story_first 1 0 5 ≡
    Some (sync_from (ItemAt 0 0 2) ∷ control_from Entry ∷ [])
    ∷ Some (read_from (Shared 0) (pos 1) (ItemAt 0 0 1) ∷ control_from Entry ∷ [])
    ∷ Some (control_from Entry ∷ [])
    ∷ Some (control_from Entry ∷ [])
    ∷ None ∷ []
unfolding terms
whys_b_0_first = refl

pub nears_a_0_first : nears (setting_of program plan 100000) story_first 0 0 4 ≡ 5 ∷ 5 ∷ 5 ∷ 5 ∷ []
unfolding terms
nears_a_0_first = refl

pub nears_b_0_first : nears (setting_of program plan 100000) story_first 1 0 4 ≡ 10 ∷ 10 ∷ 5 ∷ 5 ∷ []
unfolding terms
nears_b_0_first = refl

pub final_x_first : last (setting_of program plan 100000) story_first 0 ≡ (pos 2, ItemAt 1 0 1)
unfolding terms
final_x_first = refl

abbrev pub second : List ℕ
second = 1 ∷ 1 ∷ 1 ∷ 1 ∷ 1 ∷ 0 ∷ 0 ∷ 0 ∷ 0 ∷ 0 ∷ []

abbrev pub story_second : Story
story_second = story (setting_of program plan 100000) second

nobody_second : (p : ℕ) → enabled program plan (told (setting_of program plan 100000) second).world p ≡ false
unfolding terms
nobody_second zero = refl
nobody_second (suc zero) = refl
nobody_second (suc (suc p)) = refl

pub whole_second : IsWhole (setting_of program plan 100000) second
unfolding terms
whole_second = record { last = (told (setting_of program plan 100000) second).world; runs = refl; over = record { nobody = nobody_second } }

pub ends_second : (close (setting_of program plan 100000) second).ends ≡ ended status.Ended 3 5 [] ∷ ended status.Ended 7 5 [] ∷ []
unfolding terms
ends_second = refl

abbrev pub events_a_second : List TracedEvent
events_a_second =
    traced (event 0 [] [] None (Some 2) None) [] None (Some (id 1 2))
    ∷ traced (event 1 (access (Shared 0) (pos 1) ∷ []) (access (Shared 0) (pos 2) ∷ []) None None None) (Some (id 1 1) ∷ []) None None
    ∷ traced (event 2 [] [] None (Some 3) None) [] None None
    ∷ traced (quiet 3) [] None None ∷ []

abbrev pub events_b_second : List TracedEvent
events_b_second =
    traced (event 4 [] [] None (Some 1) None) [] None None
    ∷ traced (event 5 (access (Shared 0) (pos 0) ∷ []) (access (Shared 0) (pos 1) ∷ []) None None None) (None ∷ []) None None
    ∷ traced (event 6 [] [] None (Some 2) None) [] None None
    ∷ traced (quiet 7) [] None None ∷ []

pub trace_second : full_trace (setting_of program plan 100000) (story (setting_of program plan 100000) second) ≡ record { events = events_a_second ∷ events_b_second ∷ [] }
unfolding terms
trace_second = refl

pub synchronizations_second : sync_record (setting_of program plan 100000) second ≡ (synced sync.P 0 2 ∷ synced sync.V 0 3 ∷ []) ∷ (synced sync.P 0 1 ∷ synced sync.V 0 2 ∷ []) ∷ []
unfolding terms
synchronizations_second = refl

pub accesses_a_second : accesses story_second 0 ≡ touched 1 0 false ∷ touched 1 0 true ∷ []
unfolding terms
accesses_a_second = refl

pub accesses_b_second : accesses story_second 1 ≡ touched 1 0 false ∷ touched 1 0 true ∷ []
unfolding terms
accesses_b_second = refl

pub races_second : races (setting_of program plan 100000) second ≡ []
unfolding terms
races_second = refl

pub logs_second : (closed_logs (setting_of program plan 100000) second).lists ≡
    (entry.Prelog 0 [] ∷ entry.Unit 0 [] ∷ entry.Sync sync.P 0 2 (pos 0) [] [] ∷ entry.Unit 1 (pos 1 ∷ []) ∷ entry.Sync sync.V 0 3 (pos 0) (0 ∷ []) (0 ∷ []) ∷ entry.Unit 2 [] ∷ entry.Postlog 0 [] ∷ entry.End status.Ended 0 [] [] ∷ [])
    ∷ (entry.Prelog 1 [] ∷ entry.Unit 3 [] ∷ entry.Sync sync.P 0 1 (pos 0) [] [] ∷ entry.Unit 4 (pos 0 ∷ []) ∷ entry.Sync sync.V 0 2 (pos 0) (0 ∷ []) (0 ∷ []) ∷ entry.Unit 5 [] ∷ entry.Postlog 1 [] ∷ entry.End status.Ended 0 [] [] ∷ []) ∷ []
unfolding terms
logs_second = refl

pub extents_a_second : extents (setting_of program plan 100000) story_second 0 ≡
    extent 0 [] 0 (Some 4) 5 ∷ []
unfolding terms
extents_a_second = refl

pub extents_b_second : extents (setting_of program plan 100000) story_second 1 ≡
    extent 1 [] 0 (Some 4) 5 ∷ []
unfolding terms
extents_b_second = refl

pub open_a_0_second : items (setting_of program plan 100000) story_second 0 0 ≡
    Some (Own (event 0 [] [] None (Some 2) None)
    ∷ Own (event 1 (access (Shared 0) (pos 1) ∷ []) (access (Shared 0) (pos 2) ∷ []) None None None)
    ∷ Own (event 2 [] [] None (Some 3) None)
    ∷ Own (quiet 3) ∷ [])
unfolding terms
open_a_0_second = refl

pub open_b_0_second : items (setting_of program plan 100000) story_second 1 0 ≡
    Some (Own (event 4 [] [] None (Some 1) None)
    ∷ Own (event 5 (access (Shared 0) (pos 0) ∷ []) (access (Shared 0) (pos 1) ∷ []) None None None)
    ∷ Own (event 6 [] [] None (Some 2) None)
    ∷ Own (quiet 7) ∷ [])
unfolding terms
open_b_0_second = refl

pub whys_a_0_second : whys (setting_of program plan 100000) story_second 0 0 5 ≡
    Some (sync_from (ItemAt 1 0 2) ∷ control_from Entry ∷ [])
    ∷ Some (read_from (Shared 0) (pos 1) (ItemAt 1 0 1) ∷ control_from Entry ∷ [])
    ∷ Some (control_from Entry ∷ [])
    ∷ Some (control_from Entry ∷ [])
    ∷ None ∷ []
unfolding terms
whys_a_0_second = refl

pub whys_b_0_second : whys (setting_of program plan 100000) story_second 1 0 5 ≡
    Some (sync_from Initial ∷ control_from Entry ∷ [])
    ∷ Some (read_from (Shared 0) (pos 0) Initial ∷ control_from Entry ∷ [])
    ∷ Some (control_from Entry ∷ [])
    ∷ Some (control_from Entry ∷ [])
    ∷ None ∷ []
unfolding terms
whys_b_0_second = refl

pub nears_a_0_second : nears (setting_of program plan 100000) story_second 0 0 4 ≡ 10 ∷ 10 ∷ 5 ∷ 5 ∷ []
unfolding terms
nears_a_0_second = refl

pub nears_b_0_second : nears (setting_of program plan 100000) story_second 1 0 4 ≡ 5 ∷ 5 ∷ 5 ∷ 5 ∷ []
unfolding terms
nears_b_0_second = refl

pub final_x_second : last (setting_of program plan 100000) story_second 0 ≡ (pos 2, ItemAt 0 0 1)
unfolding terms
final_x_second = refl

first_number : List Sync → ℕ
first_number [] = 0
first_number (x ∷ xs) = x.number

number_of_a : List (List Sync) → ℕ
number_of_a [] = 0
number_of_a (xs ∷ rest) = first_number xs

number_first : number_of_a (sync_record (setting_of program plan 100000) first) ≡ 1
unfolding terms first_number number_of_a
number_first = refl

number_second : number_of_a (sync_record (setting_of program plan 100000) second) ≡ 2
unfolding terms first_number number_of_a
number_second = refl

-- the two do not agree
pub apart : Agree (setting_of program plan 100000) first second → ⊥
apart agree =
    let same : number_of_a (sync_record (setting_of program plan 100000) first) ≡ number_of_a (sync_record (setting_of program plan 100000) second) = ap number_of_a agree.records in
    omega (arith, same, number_first, number_second)

-- every schedule ends so, with these races
pub every : (h : List ℕ) → IsWhole (setting_of program plan 100000) h → outcome (setting_of program plan 100000) h ≡ (ended status.Ended 3 5 [] ∷ ended status.Ended 7 5 [] ∷ [], [])
unfolding terms
every h whole = every_whole program plan 100000 11 12 (outcome (setting_of program plan 100000)) _ refl refl h whole
