-- Small processes, computed from start to end.
use Rattle.std.proofs.Common.{◌≡◌, refl}
use Rattle.std.specs.Prelude.{pos, false, List, [], ◌∷◌, Some}
use Rattle.ppd_ast.specs.Term.{terms}
use Rattle.ppd_ast.specs.declared.plan.BlockKind.TheVariants as block
use Rattle.ppd_ast.specs.declared.plan.Plan.{Plan}
use Rattle.ppd_ast.specs.declared.plan.Start.TheVariants as start
use Rattle.ppd_ast.specs.declared.program.Expr.TheVariants as expr
use Rattle.ppd_ast.specs.declared.program.Kind.TheVariants as kind
use Rattle.ppd_ast.specs.declared.program.Op.TheVariants as op
use Rattle.ppd_ast.specs.declared.program.Program.{Program}
use Rattle.ppd_ast.specs.declared.program.Target.TheVariants as target
use Rattle.ppd_ast.specs.declared.status.Status.TheVariants as status
use Rattle.ppd_ast.specs.declared.status.Trap.TheVariants as trap
use Rattle.ppd_sem.specs.declared.proc.Answer.{Answer}
use Rattle.ppd_sem.specs.declared.proc.Answer.TheVariants.{Value, Go}
use Rattle.ppd_sem.specs.declared.proc.Need.{Need}
use Rattle.ppd_sem.specs.declared.proc.Need.TheVariants.{Read, Write, Plain, End, Trap, Budget, Stopped}
use Rattle.ppd_sem.specs.declared.proc.Proc.{Proc}
use Rattle.rows_programs.proofs.Example.{printing, program_of}
use Rattle.ppd_sem.specs.Process.{act, need_of, started}

abbrev plan : Plan
plan = record {
  policy = record { leaf = 0; loops = 0 };
  blocks = record { kind = block.Process 0; prelog = []; postlog = []; value = false } ∷ [];
  units = record { start = start.Entry 0; cells = [] } ∷ [];
}

-- the needs, where the steps are given these answers, with the need after the last one
abbrev needs : Program → Proc → List Answer → List Need
needs program s [] = need_of program plan s ∷ []
needs program s (a ∷ answers) = need_of program plan s ∷ needs program (act program plan s a) answers

abbrev after : Program → Proc → List Answer → Proc
after program s [] = s
after program s (a ∷ answers) = after program (act program plan s a) answers

abbrev four : List Answer
four = Go ∷ Value (pos 2) ∷ Go ∷ Go ∷ []

pub printing_needs : needs printing (started printing plan 0 100000) four ≡ Write 0 (pos 2) ∷ Read 0 ∷ Plain ∷ End 0 ∷ Stopped ∷ []
unfolding terms
printing_needs = refl

pub printing_ends : after printing (started printing plan 0 100000) four ≡ record (started printing plan 0 100000) { todo = []; spent = 4; steps = 4; prints = pos 5 ∷ []; status = Some status.Ended }
unfolding terms
printing_ends = refl

-- with a budget of 3 the last of its steps is the print
pub budget_needs : needs printing (started printing plan 0 3) four ≡ Write 0 (pos 2) ∷ Read 0 ∷ Plain ∷ Budget ∷ Stopped ∷ []
unfolding terms
budget_needs = refl

pub budget_status : (after printing (started printing plan 0 3) four).status ≡ Some status.Budget
unfolding terms
budget_status = refl

pub budget_steps : (after printing (started printing plan 0 3) four).steps ≡ 3
unfolding terms
budget_steps = refl

-- x = 9223372036854775807 + 1; print(x);
abbrev overflowing : Program
overflowing =
    program_of (expr.Const (pos 9223372036854775807) ∷ expr.Const (pos 1) ∷ expr.Two op.Add 0 1 ∷ expr.Shared 0 ∷ []) (kind.Set (target.Shared 0) 2) (kind.Print 3)

pub overflowing_needs : needs overflowing (started overflowing plan 0 100000) (Go ∷ []) ≡ Trap trap.Overflow ∷ Stopped ∷ []
unfolding terms
overflowing_needs = refl

pub overflowing_ends : after overflowing (started overflowing plan 0 100000) (Go ∷ []) ≡ record (started overflowing plan 0 100000) { spent = 1; steps = 1; status = Some (status.Trap trap.Overflow) }
unfolding terms
overflowing_ends = refl
