-- shared int x; process a { x = x + 1; } process b { x = x + 1; }: no for b's interval, whoever ran first
use Rattle.ppd_model.specs.Setting.{setting_of}
use Rattle.ppd_rerun_guide.specs.Guided.{guided}
use Rattle.ppd_model.specs.RecordedSets.{record_in}
use Rattle.std.proofs.Common.{◌≡◌, refl, ap, arith}
use Rattle.std.specs.Prelude.{ℕ, zero, suc, ◌<◌, pos, nat_abs, false, List, [], ◌∷◌, None, Result, Ok, Err}
use Rattle.ppd_ast.specs.Term.{terms}
use Rattle.ppd_ast.specs.declared.plan.BlockKind.TheVariants as block
use Rattle.ppd_ast.specs.declared.plan.Plan.{Plan}
use Rattle.ppd_ast.specs.declared.plan.Start.TheVariants as start
use Rattle.ppd_ast.specs.declared.program.Expr.TheVariants as expr
use Rattle.ppd_ast.specs.declared.program.Kind.TheVariants as kind
use Rattle.ppd_ast.specs.declared.program.Op.TheVariants as op
use Rattle.ppd_ast.specs.declared.program.Program.{Program}
use Rattle.ppd_ast.specs.declared.program.Target.TheVariants as target
use Rattle.ppd_model.specs.declared.entry.Logs.{Logs}
use Rattle.ppd_model.specs.declared.block_trace.BlockTrace.{BlockTrace}
use Rattle.ppd_model.specs.declared.block_trace.EmulError.{EmulError}
use Rattle.ppd_sem.specs.declared.event.Access.{Access}
use Rattle.ppd_model.specs.declared.flow.Item.{Item}
use Rattle.ppd_model.specs.declared.flow.Item.TheVariants.{Own, Nested}
use Rattle.ppd_model.specs.Logs.{closed_logs}
use Rattle.ppd_model.specs.Schedule.{IsWhole}
use Rattle.ppd_model.specs.Story.{told}
use Rattle.ppd_model.specs.World.{enabled}
use Rattle.ppd_rerun_guide.specs.declared.verdict.No.TheVariants.{Interval}
use Rattle.ppd_rerun_guide.specs.declared.verdict.Verdict.TheVariants as verdict
use Rattle.ppd_rerun_guide.specs.Verdicts.{HasRecordOf, IsSame, IsVerdict}
use Rattle.rows_programs.proofs.Reruns.Tables.{block_of, clash, process, scalar, stmt, unit_of}

abbrev pub program : Program
program = record {
  exprs = expr.Shared 0 ∷ expr.Const (pos 1) ∷ expr.Two op.Add 0 1 ∷ expr.Shared 0 ∷ expr.Const (pos 1) ∷ expr.Two op.Add 3 4 ∷ [];
  stmts =
      stmt 0 None (kind.Set (target.Shared 0) 2)
      ∷ stmt 0 None kind.End
      ∷ stmt 1 None (kind.Set (target.Shared 0) 5)
      ∷ stmt 1 None kind.End ∷ [];
  bodies = process 97 (0 ∷ 1 ∷ []) 0 2 ∷ process 98 (2 ∷ 3 ∷ []) 2 4 ∷ [];
  functions = 0;
  shared = scalar 120 0 ∷ [];
  starts = pos 0 ∷ [];
  sems = [];
  chans = [];
}

abbrev pub plan : Plan
plan = record {
  policy = record { leaf = 0; loops = 0 };
  blocks = block_of (block.Process 0) ∷ block_of (block.Process 1) ∷ [];
  units = unit_of (start.Entry 0) (0 ∷ []) ∷ unit_of (start.Entry 1) (0 ∷ []) ∷ [];
}

abbrev pub logs : List ℕ → Logs
logs h = closed_logs (setting_of program plan 100000) h

abbrev pub in_turns : List ℕ
in_turns = 0 ∷ 1 ∷ 0 ∷ 1 ∷ 0 ∷ 1 ∷ []

abbrev pub first_a : List ℕ
first_a = 0 ∷ 0 ∷ 0 ∷ 1 ∷ 1 ∷ 1 ∷ []

abbrev pub first_b : List ℕ
first_b = 1 ∷ 1 ∷ 1 ∷ 0 ∷ 0 ∷ 0 ∷ []

pub guided_is : guided (setting_of program plan 100000) (record_in (logs in_turns)) ≡ first_a
unfolding terms
guided_is = refl

-- the value of the first read of the first item
abbrev read_in : List Access → ℕ
read_in [] = 0
read_in (a ∷ as') = nat_abs a.value

abbrev first_read : List Item → ℕ
first_read [] = 0
first_read (Own e ∷ rest) = read_in e.reads
first_read (Nested k b values closed ∷ rest) = 0

abbrev read_of : Result BlockTrace EmulError → ℕ
read_of (Ok trace) = first_read trace.items
read_of (Err e) = 0

nobody : (p : ℕ) → enabled program plan (told (setting_of program plan 100000) first_a).world p ≡ false
unfolding terms
nobody zero = refl
nobody (suc zero) = refl
nobody (suc (suc p)) = refl

whole : IsWhole (setting_of program plan 100000) first_a
unfolding terms
whole = record { last = (told (setting_of program plan 100000) first_a).world; runs = refl; over = record { nobody = nobody } }

-- recorded in turns
other_turns : IsSame (setting_of program plan 100000) (logs in_turns) first_a 1 0 → ⊥
unfolding terms
other_turns e = clash 0 1 (ap read_of e) refl

same_turns : (q m : ℕ) → q < 1 → IsSame (setting_of program plan 100000) (logs in_turns) first_a q m
unfolding terms
same_turns zero zero lt = refl
same_turns zero (suc m) lt = tt
same_turns (suc q) m lt = absurd (omega (arith, lt))

pub verdict_turns : IsVerdict (setting_of program plan 100000) (logs in_turns) (verdict.No (Interval 1 0))
unfolding terms
verdict_turns = (
  record { whole = whole; record_is = refl },
  other_turns,
  same_turns,
  λ m lt. absurd (omega (arith, lt)),
)

-- recorded with b first
other_b : IsSame (setting_of program plan 100000) (logs first_b) first_a 1 0 → ⊥
unfolding terms
other_b e = clash 0 1 (ap read_of e) refl

same_b : (q m : ℕ) → q < 1 → IsSame (setting_of program plan 100000) (logs first_b) first_a q m
unfolding terms
same_b zero zero lt = refl
same_b zero (suc m) lt = tt
same_b (suc q) m lt = absurd (omega (arith, lt))

pub verdict_b : IsVerdict (setting_of program plan 100000) (logs first_b) (verdict.No (Interval 1 0))
unfolding terms
verdict_b = (
  record { whole = whole; record_is = refl },
  other_b,
  same_b,
  λ m lt. absurd (omega (arith, lt)),
)
