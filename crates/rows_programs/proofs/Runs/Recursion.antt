-- int f(int n) { int r; if (n > 0) { r = f(n - 1); } return r + 1; } process a { int v = f(2); print(v); }
use Rattle.ppd_model.specs.Setting.{setting_of}
use Rattle.std.proofs.Common.{◌≡◌, refl}
use Rattle.std.specs.Prelude.{ℕ, zero, suc, pos, true, false, List, [], ◌∷◌, Some, None, replicate, slice_set}
use Rattle.ppd_ast.specs.Term.{terms}
use Rattle.ppd_ast.specs.declared.plan.BlockKind.TheVariants as block
use Rattle.ppd_ast.specs.declared.plan.Plan.{Plan}
use Rattle.ppd_ast.specs.declared.plan.Start.TheVariants as start
use Rattle.ppd_ast.specs.declared.program.Expr.TheVariants as expr
use Rattle.ppd_ast.specs.declared.program.Kind.TheVariants as kind
use Rattle.ppd_ast.specs.declared.program.Op.TheVariants as op
use Rattle.ppd_ast.specs.declared.program.Program.{Program}
use Rattle.ppd_ast.specs.declared.program.Target.TheVariants as target
use Rattle.ppd_ast.specs.declared.status.Status.TheVariants as status
use Rattle.ppd_ast.specs.declared.status.Trap.TheVariants as trap
use Rattle.ppd_model.specs.declared.entry.Entry.TheVariants as entry
use Rattle.ppd_sem.specs.declared.event.Spot.TheVariants.{Local}
use Rattle.ppd_model.specs.declared.flow.Item.TheVariants.{Own, Nested}
use Rattle.ppd_model.specs.declared.flow.Origin.TheVariants.{Entry, Item as ItemAt}
use Rattle.ppd_model.specs.declared.trace.TracedEvent.{TracedEvent}
use Rattle.ppd_model.specs.World.{enabled}
use Rattle.ppd_model.specs.Schedule.{IsWhole}
use Rattle.ppd_model.specs.declared.tracing.Story.{Story}
use Rattle.ppd_model.specs.Story.{story, told}
use Rattle.ppd_model.specs.FullTrace.{full_trace}
use Rattle.ppd_model.specs.Record.{accesses, sync_record}
use Rattle.ppd_model.specs.Races.{races}
use Rattle.ppd_model.specs.Logs.{close, closed_logs}
use Rattle.ppd_model.specs.Intervals.{items}
use Rattle.rows_programs.proofs.Runs.Tables.{stmt_in, scalar, body_of, block_of, unit_of, access, event, quiet, id, traced, ended, read_from, returned_from, control_from}
use Rattle.rows_programs.proofs.Runs.Showing.{extent, extents, whys, nears}

abbrev pub program : Program
program = record {
  exprs = expr.Const (pos 0) ∷ expr.Local 0 ∷ expr.Const (pos 0) ∷ expr.Two op.Gt 1 2 ∷ expr.Local 0 ∷ expr.Const (pos 1) ∷ expr.Two op.Sub 4 5 ∷ expr.Local 1 ∷ expr.Const (pos 1) ∷ expr.Two op.Add 7 8 ∷ expr.Const (pos 2) ∷ expr.Local 0 ∷ [];
  stmts =
      stmt_in 0 2 7 None (kind.Set (target.Local 1) 0)
      ∷ stmt_in 0 3 3 None (kind.If 3 (2 ∷ []) [])
      ∷ stmt_in 0 4 5 (Some 1) (kind.Call 0 (6 ∷ []) (Some 1))
      ∷ stmt_in 0 6 3 None (kind.Return (Some 9))
      ∷ stmt_in 1 9 7 None (kind.Call 0 (10 ∷ []) (Some 0))
      ∷ stmt_in 1 10 3 None (kind.Print 11)
      ∷ stmt_in 1 11 1 None kind.End ∷ [];
  bodies = body_of 102 false 1 true (scalar 110 0 ∷ scalar 114 1 ∷ []) 2 (0 ∷ 1 ∷ 3 ∷ []) 0 4 ∷ body_of 97 true 0 false (scalar 118 0 ∷ []) 1 (4 ∷ 5 ∷ 6 ∷ []) 4 7 ∷ [];
  functions = 1;
  shared = [];
  starts = [];
  sems = [];
  chans = [];
}

abbrev pub plan : Plan
plan = record {
  policy = record { leaf = 0; loops = 0 };
  blocks = block_of (block.Function 0) (0 ∷ []) [] true ∷ block_of (block.Process 1) [] [] false ∷ [];
  units = unit_of (start.Entry 0) [] ∷ unit_of (start.After 2) [] ∷ unit_of (start.Entry 1) [] ∷ unit_of (start.After 4) [] ∷ [];
}

abbrev pub schedule : List ℕ
schedule = 0 ∷ 0 ∷ 0 ∷ 0 ∷ 0 ∷ 0 ∷ 0 ∷ 0 ∷ 0 ∷ 0 ∷ 0 ∷ 0 ∷ 0 ∷ 0 ∷ []

abbrev pub the_story : Story
the_story = story (setting_of program plan 100000) schedule

nobody : (p : ℕ) → enabled program plan (told (setting_of program plan 100000) schedule).world p ≡ false
unfolding terms
nobody zero = refl
nobody (suc p) = refl

pub whole : IsWhole (setting_of program plan 100000) schedule
unfolding terms
whole = record { last = (told (setting_of program plan 100000) schedule).world; runs = refl; over = record { nobody = nobody } }

pub ends : (close (setting_of program plan 100000) schedule).ends ≡ ended status.Ended 6 14 (pos 3 ∷ []) ∷ []
unfolding terms
ends = refl

abbrev pub events_a : List TracedEvent
events_a =
    traced (event 4 [] (access (Local 1 0) (pos 2) ∷ []) None None None) [] None None
    ∷ traced (event 0 [] (access (Local 0 1) (pos 0) ∷ []) None None None) [] (Some (id 0 0)) None
    ∷ traced (event 1 (access (Local 0 0) (pos 2) ∷ []) [] (Some (pos 1)) None None) (Some (id 0 0) ∷ []) (Some (id 0 0)) None
    ∷ traced (event 2 (access (Local 0 0) (pos 2) ∷ []) (access (Local 1 0) (pos 1) ∷ []) None None None) (Some (id 0 0) ∷ []) (Some (id 0 2)) None
    ∷ traced (event 0 [] (access (Local 0 1) (pos 0) ∷ []) None None None) [] (Some (id 0 3)) None
    ∷ traced (event 1 (access (Local 0 0) (pos 1) ∷ []) [] (Some (pos 1)) None None) (Some (id 0 3) ∷ []) (Some (id 0 3)) None
    ∷ traced (event 2 (access (Local 0 0) (pos 1) ∷ []) (access (Local 1 0) (pos 0) ∷ []) None None None) (Some (id 0 3) ∷ []) (Some (id 0 5)) None
    ∷ traced (event 0 [] (access (Local 0 1) (pos 0) ∷ []) None None None) [] (Some (id 0 6)) None
    ∷ traced (event 1 (access (Local 0 0) (pos 0) ∷ []) [] (Some (pos 0)) None None) (Some (id 0 6) ∷ []) (Some (id 0 6)) None
    ∷ traced (event 3 (access (Local 0 1) (pos 0) ∷ []) [] (Some (pos 1)) None None) (Some (id 0 7) ∷ []) (Some (id 0 6)) None
    ∷ traced (event 3 (access (Local 0 1) (pos 1) ∷ []) [] (Some (pos 2)) None None) (Some (id 0 9) ∷ []) (Some (id 0 3)) None
    ∷ traced (event 3 (access (Local 0 1) (pos 2) ∷ []) [] (Some (pos 3)) None None) (Some (id 0 10) ∷ []) (Some (id 0 0)) None
    ∷ traced (event 5 (access (Local 0 0) (pos 3) ∷ []) [] (Some (pos 3)) None None) (Some (id 0 11) ∷ []) None None
    ∷ traced (quiet 6) [] None None ∷ []

pub trace : full_trace (setting_of program plan 100000) (story (setting_of program plan 100000) schedule) ≡ record { events = events_a ∷ [] }
unfolding terms
trace = refl

pub synchronizations : sync_record (setting_of program plan 100000) schedule ≡ [] ∷ []
unfolding terms
synchronizations = refl

pub accesses_a : accesses the_story 0 ≡ []
unfolding terms
accesses_a = refl

pub race_list : races (setting_of program plan 100000) schedule ≡ []
unfolding terms
race_list = refl

pub log : (closed_logs (setting_of program plan 100000) schedule).lists ≡
    (entry.Prelog 1 [] ∷ entry.Unit 2 [] ∷ entry.Prelog 0 (pos 2 ∷ []) ∷ entry.Unit 0 [] ∷ entry.Prelog 0 (pos 1 ∷ []) ∷ entry.Unit 0 [] ∷ entry.Prelog 0 (pos 0 ∷ []) ∷ entry.Unit 0 [] ∷ entry.Postlog 0 (pos 1 ∷ []) ∷ entry.Unit 1 [] ∷ entry.Postlog 0 (pos 2 ∷ []) ∷ entry.Unit 1 [] ∷ entry.Postlog 0 (pos 3 ∷ []) ∷ entry.Unit 3 [] ∷ entry.Postlog 1 [] ∷ entry.End status.Ended 1 [] [] ∷ []) ∷ []
unfolding terms
log = refl

pub extents_a : extents (setting_of program plan 100000) the_story 0 ≡
    extent 1 [] 0 (Some 13) 3
    ∷ extent 0 (0 ∷ []) 0 (Some 11) 4
    ∷ extent 0 (1 ∷ 0 ∷ []) 3 (Some 10) 4
    ∷ extent 0 (2 ∷ 1 ∷ 0 ∷ []) 6 (Some 9) 3 ∷ []
unfolding terms
extents_a = refl

pub open_a_0 : items (setting_of program plan 100000) the_story 0 0 ≡
    Some (Own (event 4 [] (access (Local 1 0) (pos 2) ∷ []) None None None)
    ∷ Nested 1 0 (pos 3 ∷ []) true
    ∷ Own (event 5 (access (Local 0 0) (pos 3) ∷ []) [] (Some (pos 3)) None None)
    ∷ Own (quiet 6) ∷ [])
unfolding terms
open_a_0 = refl

pub open_a_1 : items (setting_of program plan 100000) the_story 0 1 ≡
    Some (Own (event 0 [] (access (Local 0 1) (pos 0) ∷ []) None None None)
    ∷ Own (event 1 (access (Local 0 0) (pos 2) ∷ []) [] (Some (pos 1)) None None)
    ∷ Own (event 2 (access (Local 0 0) (pos 2) ∷ []) (access (Local 1 0) (pos 1) ∷ []) None None None)
    ∷ Nested 2 0 (pos 2 ∷ []) true
    ∷ Own (event 3 (access (Local 0 1) (pos 2) ∷ []) [] (Some (pos 3)) None None) ∷ [])
unfolding terms
open_a_1 = refl

pub open_a_2 : items (setting_of program plan 100000) the_story 0 2 ≡
    Some (Own (event 0 [] (access (Local 0 1) (pos 0) ∷ []) None None None)
    ∷ Own (event 1 (access (Local 0 0) (pos 1) ∷ []) [] (Some (pos 1)) None None)
    ∷ Own (event 2 (access (Local 0 0) (pos 1) ∷ []) (access (Local 1 0) (pos 0) ∷ []) None None None)
    ∷ Nested 3 0 (pos 1 ∷ []) true
    ∷ Own (event 3 (access (Local 0 1) (pos 1) ∷ []) [] (Some (pos 2)) None None) ∷ [])
unfolding terms
open_a_2 = refl

pub open_a_3 : items (setting_of program plan 100000) the_story 0 3 ≡
    Some (Own (event 0 [] (access (Local 0 1) (pos 0) ∷ []) None None None)
    ∷ Own (event 1 (access (Local 0 0) (pos 0) ∷ []) [] (Some (pos 0)) None None)
    ∷ Own (event 3 (access (Local 0 1) (pos 0) ∷ []) [] (Some (pos 1)) None None) ∷ [])
unfolding terms
open_a_3 = refl

pub whys_a_0 : whys (setting_of program plan 100000) the_story 0 0 5 ≡
    Some (control_from Entry ∷ [])
    ∷ Some (returned_from (pos 3) (ItemAt 0 1 4) ∷ control_from (ItemAt 0 0 0) ∷ [])
    ∷ Some (read_from (Local 0 0) (pos 3) (ItemAt 0 1 4) ∷ control_from Entry ∷ [])
    ∷ Some (control_from Entry ∷ [])
    ∷ None ∷ []
unfolding terms
whys_a_0 = refl

pub whys_a_1 : whys (setting_of program plan 100000) the_story 0 1 6 ≡
    Some (control_from (ItemAt 0 0 0) ∷ [])
    ∷ Some (read_from (Local 0 0) (pos 2) (ItemAt 0 0 0) ∷ control_from (ItemAt 0 0 0) ∷ [])
    ∷ Some (read_from (Local 0 0) (pos 2) (ItemAt 0 0 0) ∷ control_from (ItemAt 0 1 1) ∷ [])
    ∷ Some (returned_from (pos 2) (ItemAt 0 2 4) ∷ control_from (ItemAt 0 1 2) ∷ [])
    ∷ Some (read_from (Local 0 1) (pos 2) (ItemAt 0 2 4) ∷ control_from (ItemAt 0 0 0) ∷ [])
    ∷ None ∷ []
unfolding terms
whys_a_1 = refl

pub whys_a_2 : whys (setting_of program plan 100000) the_story 0 2 6 ≡
    Some (control_from (ItemAt 0 1 2) ∷ [])
    ∷ Some (read_from (Local 0 0) (pos 1) (ItemAt 0 1 2) ∷ control_from (ItemAt 0 1 2) ∷ [])
    ∷ Some (read_from (Local 0 0) (pos 1) (ItemAt 0 1 2) ∷ control_from (ItemAt 0 2 1) ∷ [])
    ∷ Some (returned_from (pos 1) (ItemAt 0 3 2) ∷ control_from (ItemAt 0 2 2) ∷ [])
    ∷ Some (read_from (Local 0 1) (pos 1) (ItemAt 0 3 2) ∷ control_from (ItemAt 0 1 2) ∷ [])
    ∷ None ∷ []
unfolding terms
whys_a_2 = refl

pub whys_a_3 : whys (setting_of program plan 100000) the_story 0 3 4 ≡
    Some (control_from (ItemAt 0 2 2) ∷ [])
    ∷ Some (read_from (Local 0 0) (pos 0) (ItemAt 0 2 2) ∷ control_from (ItemAt 0 2 2) ∷ [])
    ∷ Some (read_from (Local 0 1) (pos 0) (ItemAt 0 3 0) ∷ control_from (ItemAt 0 2 2) ∷ [])
    ∷ None ∷ []
unfolding terms
whys_a_3 = refl

pub nears_a_0 : nears (setting_of program plan 100000) the_story 0 0 4 ≡ 14 ∷ 14 ∷ 14 ∷ 14 ∷ []
unfolding terms
nears_a_0 = refl

pub nears_a_1 : nears (setting_of program plan 100000) the_story 0 1 5 ≡ 14 ∷ 14 ∷ 14 ∷ 14 ∷ 14 ∷ []
unfolding terms
nears_a_1 = refl

pub nears_a_2 : nears (setting_of program plan 100000) the_story 0 2 5 ≡ 14 ∷ 14 ∷ 14 ∷ 14 ∷ 14 ∷ []
unfolding terms
nears_a_2 = refl

pub nears_a_3 : nears (setting_of program plan 100000) the_story 0 3 3 ≡ 14 ∷ 14 ∷ 14 ∷ []
unfolding terms
nears_a_3 = refl

-- with f(n) in place of f(2)
abbrev pub deeper : ℕ → Program
deeper n = record program { exprs = slice_set program.exprs 10 (expr.Const (pos n)) }

pub ends_63 : (close (setting_of (deeper 63) plan 100000) (replicate 258 0)).ends ≡ ended status.Ended 6 258 (pos 64 ∷ []) ∷ []
unfolding terms
ends_63 = refl

-- the 65th call is one too many
pub ends_64 : (close (setting_of (deeper 64) plan 100000) (replicate 193 0)).ends ≡ ended (status.Trap trap.Depth) 2 193 [] ∷ []
unfolding terms
ends_64 = refl
