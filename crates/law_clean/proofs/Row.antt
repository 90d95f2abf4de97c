-- shared int x, y; sem s; process a { y = 3; print(y); V(s); x = 1; } process b { x = 2; }
use Rattle.ppd_model.specs.Setting.{setting_of}
use Rattle.law_clean.specs.Cuts.{cut_logs}
use Rattle.std.proofs.Common.{◌≡◌, refl}
use Rattle.std.specs.Prelude.{ℕ, pos, true, false, List, [], ◌∷◌, Some, None}
use Rattle.ppd_ast.specs.Term.{terms}
use Rattle.ppd_ast.specs.declared.plan.BlockKind.TheVariants as block
use Rattle.ppd_ast.specs.declared.plan.Plan.{Plan}
use Rattle.ppd_ast.specs.declared.plan.Start.TheVariants as start
use Rattle.ppd_ast.specs.declared.program.Expr.TheVariants as expr
use Rattle.ppd_ast.specs.declared.program.Kind.TheVariants as kind
use Rattle.ppd_ast.specs.declared.program.Program.{Program}
use Rattle.ppd_ast.specs.declared.program.Target.TheVariants as target
use Rattle.ppd_ast.specs.declared.status.Status.TheVariants as status
use Rattle.ppd_ast.specs.declared.status.SyncKind.TheVariants as sync
use Rattle.ppd_model.specs.declared.entry.Entry.TheVariants as entry
use Rattle.ppd_model.specs.declared.entry.Logs.{Logs}
use Rattle.ppd_sem.specs.declared.event.Spot.TheVariants.{Shared}
use Rattle.ppd_model.specs.declared.flow.EdgeKind.TheVariants.{Control, Read}
use Rattle.ppd_model.specs.declared.flow.FlowEdge.{FlowEdge}
use Rattle.ppd_model.specs.declared.flow.Item.{Item}
use Rattle.ppd_model.specs.declared.flow.Item.TheVariants.{Own}
use Rattle.ppd_model.specs.declared.flow.Origin.TheVariants.{Entry, Item as ItemAt}
use Rattle.ppd_model.specs.declared.graph.RaceKind.TheVariants.{WriteWrite}
use Rattle.ppd_model.specs.HappenedBefore.{edge}
use Rattle.ppd_model.specs.Logs.{closed_logs}
use Rattle.ppd_model.specs.Races.{race, races}
use Rattle.ppd_model.specs.RecordedSets.{record_in}
use Rattle.law_clean.specs.Answers.{CleanOr, answer_of, clean, unclean}
use Rattle.law_clean.specs.Search.{clean_by, last_wanted}

abbrev program : Program
program = record {
  exprs = expr.Const (pos 3) ∷ expr.Shared 1 ∷ expr.Const (pos 1) ∷ expr.Const (pos 2) ∷ [];
  stmts =
      (record { place = record { line = 1; column = 37 }; body = 0; parent = None; kind = kind.Set (target.Shared 1) 0 })
      ∷ (record { place = record { line = 1; column = 44 }; body = 0; parent = None; kind = kind.Print 1 })
      ∷ (record { place = record { line = 1; column = 54 }; body = 0; parent = None; kind = kind.V 0 })
      ∷ (record { place = record { line = 1; column = 60 }; body = 0; parent = None; kind = kind.Set (target.Shared 0) 2 })
      ∷ (record { place = record { line = 1; column = 67 }; body = 0; parent = None; kind = kind.End })
      ∷ (record { place = record { line = 1; column = 81 }; body = 1; parent = None; kind = kind.Set (target.Shared 0) 3 })
      ∷ (record { place = record { line = 1; column = 88 }; body = 1; parent = None; kind = kind.End }) ∷ [];
  bodies =
      (record { name = 97 ∷ []; process = true; params = 0; value = false; cells = 0; locals = []; top = 0 ∷ 1 ∷ 2 ∷ 3 ∷ 4 ∷ []; first = 0; end = 5 })
      ∷ (record { name = 98 ∷ []; process = true; params = 0; value = false; cells = 0; locals = []; top = 5 ∷ 6 ∷ []; first = 5; end = 7 }) ∷ [];
  functions = 0;
  shared = (record { name = 120 ∷ []; base = 0; len = None }) ∷ (record { name = 121 ∷ []; base = 1; len = None }) ∷ [];
  starts = pos 0 ∷ pos 0 ∷ [];
  sems = (record { name = 115 ∷ []; start = 0 }) ∷ [];
  chans = [];
}

abbrev plan : Plan
plan = record {
  policy = record { leaf = 0; loops = 0 };
  blocks = (record { kind = block.Process 0; prelog = []; postlog = []; value = false }) ∷ (record { kind = block.Process 1; prelog = []; postlog = []; value = false }) ∷ [];
  units = (record { start = start.Entry 0; cells = 1 ∷ [] }) ∷ (record { start = start.After 2; cells = [] }) ∷ (record { start = start.Entry 1; cells = [] }) ∷ [];
}

abbrev order : List ℕ
order = 0 ∷ 0 ∷ 0 ∷ 0 ∷ 0 ∷ 0 ∷ 1 ∷ 1 ∷ []

pub race_list : races (setting_of program plan 100000) (0 ∷ 0 ∷ 0 ∷ 0 ∷ 0 ∷ 0 ∷ 1 ∷ 1 ∷ []) ≡ race 0 1 1 0 0 WriteWrite ∷ []
unfolding terms
race_list = refl

abbrev print_item : Item
print_item = Own (record { stmt = 1; reads = (record { spot = Shared 1; value = pos 3 }) ∷ []; writes = []; value = Some (pos 3); number = None; trap = None })

abbrev print_edges : List FlowEdge
print_edges = (record { kind = Read; spot = Some (Shared 1); value = Some (pos 3); from = ItemAt 0 0 0 }) ∷ (record { kind = Control; spot = None; value = None; from = Entry }) ∷ []

abbrev give_item : Item
give_item = Own (record { stmt = 2; reads = []; writes = []; value = None; number = Some 1; trap = None })

pub print_is : answer_of (setting_of program plan 100000) order 0 0 1 ≡ clean print_item print_edges
unfolding terms
print_is = refl

pub give_is : answer_of (setting_of program plan 100000) order 0 0 2 ≡ clean give_item ((record { kind = Control; spot = None; value = None; from = Entry }) ∷ [])
unfolding terms
give_is = refl

pub raced_write : answer_of (setting_of program plan 100000) order 0 0 3 ≡ unclean (edge 0 1)
unfolding terms
raced_write = refl

pub past_the_end : answer_of (setting_of program plan 100000) order 0 0 9 ≡ unclean (edge 0 1)
unfolding terms
past_the_end = refl

pub other_write : answer_of (setting_of program plan 100000) order 1 0 0 ≡ unclean (edge 1 0)
unfolding terms
other_write = refl

-- ---- the same by logs, races and replays of cut logs

abbrev logs : Logs
logs = closed_logs (setting_of program plan 100000) (0 ∷ 0 ∷ 0 ∷ 0 ∷ 0 ∷ 0 ∷ 1 ∷ 1 ∷ [])

abbrev found : ℕ → ℕ → ℕ → CleanOr
found p k j = clean_by (setting_of program plan 100000) (closed_logs (setting_of program plan 100000) (0 ∷ 0 ∷ 0 ∷ 0 ∷ 0 ∷ 0 ∷ 1 ∷ 1 ∷ [])) (race 0 1 1 0 0 WriteWrite ∷ []) p k j

pub print_found : found 0 0 1 ≡ clean print_item print_edges
unfolding terms
print_found = refl

pub give_found : found 0 0 2 ≡ clean give_item ((record { kind = Control; spot = None; value = None; from = Entry }) ∷ [])
unfolding terms
give_found = refl

pub raced_found : found 0 0 3 ≡ unclean (edge 0 1)
unfolding terms
raced_found = refl

pub past_found : found 0 0 9 ≡ unclean (edge 0 1)
unfolding terms
past_found = refl

pub other_found : found 1 0 0 ≡ unclean (edge 1 0)
unfolding terms
other_found = refl

pub cut_lists : (cut_logs (last_wanted program (record_in logs) (race 0 1 1 0 0 WriteWrite ∷ []) 0 (Some 1)) logs).lists ≡
    (entry.Prelog 0 [] ∷ entry.Unit 0 (pos 0 ∷ []) ∷ entry.Sync sync.V 0 1 (pos 0) (1 ∷ []) (1 ∷ []) ∷ entry.Unit 1 [] ∷ entry.End status.Budget 0 [] [] ∷ [])
    ∷ (entry.Prelog 1 [] ∷ entry.Unit 2 [] ∷ entry.End status.Budget 0 [] [] ∷ []) ∷ []
unfolding terms
cut_lists = refl
