-- shared int x; sem s; process a { if (x) { V(s); } } process b { x = 1; }, recorded with b first: no for the record
use Rattle.ppd_model.specs.Setting.{setting_of}
use Rattle.ppd_rerun_guide.specs.Guided.{guided}
use Rattle.ppd_model.specs.RecordedSets.{record_in}
use Rattle.std.proofs.Common.{◌≡◌, refl, ap, arith}
use Rattle.std.specs.Prelude.{ℕ, pos, List, [], ◌∷◌, Some, None, get_or, length}
use Rattle.ppd_ast.specs.Term.{terms}
use Rattle.ppd_ast.specs.declared.plan.BlockKind.TheVariants as block
use Rattle.ppd_ast.specs.declared.plan.Plan.{Plan}
use Rattle.ppd_ast.specs.declared.plan.Start.TheVariants as start
use Rattle.ppd_ast.specs.declared.program.Expr.TheVariants as expr
use Rattle.ppd_ast.specs.declared.program.Kind.TheVariants as kind
use Rattle.ppd_ast.specs.declared.program.Program.{Program}
use Rattle.ppd_ast.specs.declared.program.Target.TheVariants as target
use Rattle.ppd_model.specs.declared.entry.Logs.{Logs}
use Rattle.ppd_model.specs.Logs.{closed_logs}
use Rattle.ppd_model.specs.Synchronizations.{Sync}
use Rattle.ppd_rerun_guide.specs.declared.verdict.No.TheVariants.{Record}
use Rattle.ppd_rerun_guide.specs.declared.verdict.Verdict.TheVariants as verdict
use Rattle.ppd_rerun_guide.specs.Verdicts.{HasRecordOf, IsVerdict}
use Rattle.rows_programs.proofs.Reruns.Tables.{block_of, clash, process, scalar, stmt, unit_of}

abbrev pub program : Program
program = record {
  exprs = expr.Shared 0 ∷ expr.Const (pos 1) ∷ [];
  stmts =
      stmt 0 None (kind.If 0 (1 ∷ []) [])
      ∷ stmt 0 (Some 0) (kind.V 0)
      ∷ stmt 0 None kind.End
      ∷ stmt 1 None (kind.Set (target.Shared 0) 1)
      ∷ stmt 1 None kind.End ∷ [];
  bodies = process 97 (0 ∷ 2 ∷ []) 0 3 ∷ process 98 (3 ∷ 4 ∷ []) 3 5 ∷ [];
  functions = 0;
  shared = scalar 120 0 ∷ [];
  starts = pos 0 ∷ [];
  sems = record { name = 115 ∷ []; start = 0 } ∷ [];
  chans = [];
}

abbrev pub plan : Plan
plan = record {
  policy = record { leaf = 0; loops = 0 };
  blocks = block_of (block.Process 0) ∷ block_of (block.Process 1) ∷ [];
  units = unit_of (start.Entry 0) (0 ∷ []) ∷ unit_of (start.After 1) [] ∷ unit_of (start.Entry 1) [] ∷ [];
}

abbrev pub logs : Logs
logs = closed_logs (setting_of program plan 100000) (1 ∷ 1 ∷ 0 ∷ 0 ∷ 0 ∷ 0 ∷ [])

pub guided_is : guided (setting_of program plan 100000) (record_in logs) ≡ 0 ∷ 0 ∷ 0 ∷ 1 ∷ 1 ∷ []
unfolding terms
guided_is = refl

-- how many synchronizations process 0 has
abbrev first_count : List (List Sync) → ℕ
first_count syncs = length (get_or syncs 0 [])

other : HasRecordOf (setting_of program plan 100000) logs (guided (setting_of program plan 100000) (record_in logs)) → ⊥
unfolding terms
other f = clash 0 1 (ap first_count f.record_is) refl

pub verdict_is : IsVerdict (setting_of program plan 100000) logs (verdict.No (Record 5))
unfolding terms
verdict_is = (refl, other)
