-- shared int x; process a { x = 2; print(x + 3); }
use Rattle.ppd_model.specs.Setting.{setting_of}
use Rattle.std.proofs.Common.{◌≡◌, refl}
use Rattle.std.specs.Prelude.{pos, true, false, [], ◌∷◌, None}
use Rattle.ppd_ast.specs.Term.{terms}
use Rattle.ppd_ast.specs.declared.plan.BlockKind.TheVariants as block
use Rattle.ppd_ast.specs.declared.plan.Plan.{Plan}
use Rattle.ppd_ast.specs.declared.plan.Start.TheVariants as start
use Rattle.ppd_ast.specs.declared.program.Expr.TheVariants as expr
use Rattle.ppd_ast.specs.declared.program.Kind.TheVariants as kind
use Rattle.ppd_ast.specs.declared.program.Op.TheVariants as op
use Rattle.ppd_ast.specs.declared.program.Program.{Program}
use Rattle.ppd_ast.specs.declared.program.Target.TheVariants as target
use Rattle.ppd_model.specs.Story.{story}
use Rattle.law_clean.specs.Answers.{answer_of, no_item}

abbrev program : Program
program = record {
  exprs = expr.Const (pos 2) ∷ expr.Shared 0 ∷ expr.Const (pos 3) ∷ expr.Two op.Add 1 2 ∷ [];
  stmts =
      (record { place = record { line = 1; column = 27 }; body = 0; parent = None; kind = kind.Set (target.Shared 0) 0 })
      ∷ (record { place = record { line = 1; column = 34 }; body = 0; parent = None; kind = kind.Print 3 })
      ∷ (record { place = record { line = 1; column = 48 }; body = 0; parent = None; kind = kind.End }) ∷ [];
  bodies = (record { name = 97 ∷ []; process = true; params = 0; value = false; cells = 0; locals = []; top = 0 ∷ 1 ∷ 2 ∷ []; first = 0; end = 3 }) ∷ [];
  functions = 0;
  shared = (record { name = 120 ∷ []; base = 0; len = None }) ∷ [];
  starts = pos 0 ∷ [];
  sems = [];
  chans = [];
}

abbrev plan : Plan
plan = record {
  policy = record { leaf = 0; loops = 0 };
  blocks = (record { kind = block.Process 0; prelog = []; postlog = []; value = false }) ∷ [];
  units = (record { start = start.Entry 0; cells = 0 ∷ [] }) ∷ [];
}

pub past_the_end : answer_of (setting_of program plan 100000) (0 ∷ 0 ∷ 0 ∷ 0 ∷ []) 0 0 3 ≡ no_item
unfolding terms
past_the_end = refl
