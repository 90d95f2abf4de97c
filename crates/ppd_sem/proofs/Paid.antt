-- What a process needs can be paid for.
use Rattle.std.proofs.Common.{◌≡◌, ◌≢◌, ◌+◌, ◌≤◌, Bool, true, false, nat_lt, List, [], ◌∷◌, Option, Some, None, refl, sym, ◌∙◌, subst, arith, if◌then◌else◌}
use Rattle.std.proofs.lemmas.Bool.Decides.{nat_tests}
use Rattle.ppd_ast.specs.declared.plan.Plan.{Plan}
use Rattle.ppd_ast.specs.declared.program.Program.{Program}
use Rattle.ppd_ast.specs.declared.status.Status.{Status}
use Rattle.ppd_sem.specs.declared.proc.Need.{Need}
use Rattle.ppd_sem.specs.declared.proc.Need.TheVariants.{Budget, Stopped}
use Rattle.ppd_sem.specs.declared.proc.Proc.{Proc}
use Rattle.ppd_sem.specs.declared.proc.Todo.{Todo}
use Rattle.ppd_sem.specs.Process.{cost, need_of, need_of_head}
use Rattle.ppd_sem.proofs.Progress.{need_at_status, need_at_todo}

by_test : (plan : Plan) (s : Proc) (n m : Need) (poor : Bool) → nat_lt s.budget (s.spent + cost plan n) ≡ poor → (if poor then Budget else n) ≡ m → m ≢ Budget → s.spent + cost plan m ≤ s.budget
by_test plan s n m true test is not = absurd (not (sym is))
by_test plan s n m false test is not =
    let paid : s.spent + cost plan n ≤ s.budget = grind (arith, nat_tests) in
    subst (λ (x : Need). s.spent + cost plan x ≤ s.budget) is paid

by_state : (program : Program) (plan : Plan) (s : Proc) (m : Need) (o : Option Status) (ts : List Todo) → s.status ≡ o → s.todo ≡ ts → need_of program plan s ≡ m → m ≢ Stopped → m ≢ Budget → s.spent + cost plan m ≤ s.budget
by_state program plan s m (Some x) ts r d is runs not = absurd (runs (sym is ∙ need_at_status program plan s (Some x) r))
by_state program plan s m None [] r d is runs not = absurd (runs (sym is ∙ need_at_todo program plan s [] r d))
by_state program plan s m None (t ∷ ts) r d is runs not =
    let n : Need = need_of_head program plan t s in
    by_test plan s n m (nat_lt s.budget (s.spent + cost plan n)) refl (sym (need_at_todo program plan s (t ∷ ts) r d) ∙ is) not

-- a need that is none of the two ends can be paid for
pub need-paid : (program : Program) (plan : Plan) (s : Proc) (n : Need) → need_of program plan s ≡ n → n ≢ Stopped → n ≢ Budget → s.spent + cost plan n ≤ s.budget
need-paid program plan s n is runs not = by_state program plan s n s.status s.todo refl refl is runs not
