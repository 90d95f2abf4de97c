-- shared int x, y; sem s = 1; process p { P(s); if (y) { print(x); } } process q { x = 5; }, recorded with q first: yes
use Rattle.ppd_model.specs.Setting.{setting_of}
use Rattle.ppd_rerun_guide.specs.Guided.{guided}
use Rattle.ppd_model.specs.RecordedSets.{record_in}
use Rattle.std.proofs.Common.{◌≡◌, refl}
use Rattle.std.specs.Prelude.{ℕ, zero, suc, pos, false, List, [], ◌∷◌, Some, None, fold}
use Rattle.ppd_ast.specs.Term.{terms}
use Rattle.ppd_ast.specs.declared.plan.BlockKind.TheVariants as block
use Rattle.ppd_ast.specs.declared.plan.Plan.{Plan}
use Rattle.ppd_ast.specs.declared.plan.Start.TheVariants as start
use Rattle.ppd_ast.specs.declared.program.Expr.TheVariants as expr
use Rattle.ppd_ast.specs.declared.program.Kind.TheVariants as kind
use Rattle.ppd_ast.specs.declared.program.Program.{Program}
use Rattle.ppd_ast.specs.declared.program.Target.TheVariants as target
use Rattle.ppd_model.specs.declared.entry.Logs.{Logs}
use Rattle.ppd_model.specs.Logs.{closed_logs}
use Rattle.ppd_model.specs.Schedule.{IsWhole}
use Rattle.ppd_model.specs.Story.{told}
use Rattle.ppd_model.specs.World.{enabled}
use Rattle.ppd_rerun_guide.specs.declared.verdict.Verdict.TheVariants as verdict
use Rattle.ppd_rerun_guide.specs.Verdicts.{HasRecordOf, IsSame, IsVerdict}
use Rattle.rows_programs.proofs.Reruns.Tables.{block_of, process, scalar, stmt, unit_of}

abbrev pub program : Program
program = record {
  exprs = expr.Shared 1 ∷ expr.Shared 0 ∷ expr.Const (pos 5) ∷ [];
  stmts =
      stmt 0 None (kind.P 0)
      ∷ stmt 0 None (kind.If 0 (2 ∷ []) [])
      ∷ stmt 0 (Some 1) (kind.Print 1)
      ∷ stmt 0 None kind.End
      ∷ stmt 1 None (kind.Set (target.Shared 0) 2)
      ∷ stmt 1 None kind.End ∷ [];
  bodies = process 112 (0 ∷ 1 ∷ 3 ∷ []) 0 4 ∷ process 113 (4 ∷ 5 ∷ []) 4 6 ∷ [];
  functions = 0;
  shared = scalar 120 0 ∷ scalar 121 1 ∷ [];
  starts = pos 0 ∷ pos 0 ∷ [];
  sems = record { name = 115 ∷ []; start = 1 } ∷ [];
  chans = [];
}

abbrev pub plan : Plan
plan = record {
  policy = record { leaf = 0; loops = 0 };
  blocks = block_of (block.Process 0) ∷ block_of (block.Process 1) ∷ [];
  units = unit_of (start.Entry 0) [] ∷ unit_of (start.After 0) (0 ∷ 1 ∷ []) ∷ unit_of (start.Entry 1) [] ∷ [];
}

abbrev pub logs : Logs
logs = closed_logs (setting_of program plan 100000) (1 ∷ 1 ∷ 0 ∷ 0 ∷ 0 ∷ 0 ∷ [])

abbrev pub again : List ℕ
again = 0 ∷ 0 ∷ 0 ∷ 0 ∷ 1 ∷ 1 ∷ []

pub guided_is : guided (setting_of program plan 100000) (record_in logs) ≡ again
unfolding terms
guided_is = refl

nobody : (p : ℕ) → enabled program plan (told (setting_of program plan 100000) again).world p ≡ false
unfolding terms
nobody zero = refl
nobody (suc zero) = refl
nobody (suc (suc p)) = refl

whole : IsWhole (setting_of program plan 100000) again
unfolding terms
whole = record { last = (told (setting_of program plan 100000) again).world; runs = refl; over = record { nobody = nobody } }

follows : HasRecordOf (setting_of program plan 100000) logs again
unfolding terms
follows = record { whole = whole; record_is = refl }

same : (p k : ℕ) → IsSame (setting_of program plan 100000) logs again p k
unfolding terms
same zero zero = refl
same zero (suc k) = tt
same (suc zero) zero = refl
same (suc zero) (suc k) = tt
same (suc (suc p)) k = tt

pub verdict_is : IsVerdict (setting_of program plan 100000) logs (verdict.Yes again)
unfolding terms
verdict_is = (refl, follows, same)
