-- Which needs enter a loop, complete a send or stop, and that the others can be paid for.
use Rattle.std.proofs.Common.{◌≡◌, ◌+◌, ◌≤◌, Bool, true, false, Option, Some, None, refl, ap, sym, ◌∙◌, true≢false}
use Rattle.std.specs.Prelude.{is_some}
use Rattle.ppd_ast.specs.declared.plan.Plan.{Plan}
use Rattle.ppd_ast.specs.declared.program.Program.{Program}
use Rattle.ppd_sem.specs.declared.proc.Need.{Need}
use Rattle.ppd_sem.specs.declared.proc.Need.TheVariants.{Enter, Done, Budget, Stopped}
use Rattle.ppd_sem.specs.declared.proc.Proc.{Proc}
use Rattle.ppd_sem.specs.Process.{cost, need_of}
use Rattle.ppd_sem.proofs.Paid.{need-paid}
use Rattle.ppd_model.specs.Logs.{status_of}
use Rattle.ppd_model.specs.Marks.{Mark}
use Rattle.ppd_model.specs.Replay.{is_budget}

abbrev pub is_enter : Need → Bool
is_enter (Enter b u) = true
is_enter n = false

abbrev pub is_done : Need → Bool
is_done (Done c u) = true
is_done n = false

abbrev pub is_stop : Need → Bool
is_stop Budget = true
is_stop Stopped = true
is_stop n = false

-- the mark, or else this one
abbrev pub or_mark : Mark → Option Mark → Mark
or_mark d None = d
or_mark d (Some x) = x

-- a step that does not end the process is allowed by the budget
pub payable : (n : Need) → status_of n ≡ None → is_budget n ≡ false
payable Budget e = absurd (true≢false (ap is_some e))
payable n e = refl

pub paid : (program : Program) (plan : Plan) (s : Proc) (n : Need) → need_of program plan s ≡ n → is_stop n ≡ false
    → s.spent + cost plan n ≤ s.budget
paid program plan s n e goes =
    need-paid program plan s n e (λ q. true≢false (sym (ap is_stop q) ∙ goes))
    (λ q. true≢false (sym (ap is_stop q) ∙ goes))
