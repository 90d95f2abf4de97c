-- After an offer the same statement is completed next, or the process stops for its budget.
use Rattle.std.proofs.Common.{◌≡◌, ℕ, ◌+◌, Bool, true, false, nat_lt, Some, refl, ap, ◌⊎◌, inl, inr, if◌then◌else◌}
use Rattle.ppd_ast.specs.declared.plan.Plan.{Plan}
use Rattle.ppd_ast.specs.declared.plan.Start.TheVariants as start
use Rattle.ppd_ast.specs.declared.program.Program.{Program}
use Rattle.ppd_ast.specs.Lookups.{kind_of}
use Rattle.ppd_sem.specs.declared.proc.Need.{Need}
use Rattle.ppd_sem.specs.declared.proc.Need.TheVariants.{Done, Budget}
use Rattle.ppd_sem.specs.declared.proc.Proc.{Proc}
use Rattle.ppd_sem.specs.declared.proc.Todo.{Todo}
use Rattle.ppd_sem.specs.Process.{chan_of, cost, entry_of, head_deed, need_of_head, within_budget}
use Rattle.ppd_sem.proofs.NeedWords.{need_by_entry, need_by_offer}
use Rattle.ppd_sem.specs.Tables.{unit_of}

-- a send that is marked as offered needs its completion
pub offered_needs : (p : Program) (plan : Plan) (t : Todo) (s : Proc) (c : ℕ) → chan_of (kind_of p t.stmt) ≡ Some c → need_of_head p plan (record t { offered = true }) s ≡ Done c (unit_of plan (start.After t.stmt))
offered_needs p plan t s c is =
    ap (λ o. need_by_offer plan t.stmt o (need_by_entry p plan t.stmt s (entry_of p plan (record t { offered = true })) (head_deed p (record t { offered = true }) s))) is

paid : (b : Bool) (n : Need) → ((if b then Budget else n) ≡ n) ⊎ ((if b then Budget else n) ≡ Budget)
paid true n = inr refl
paid false n = inl refl

-- so the next step is that, or the stop for the budget
pub offered_completes : (p : Program) (plan : Plan) (t : Todo) (s : Proc) → (within_budget plan s (need_of_head p plan (record t { offered = true }) s) ≡ need_of_head p plan (record t { offered = true }) s) ⊎ (within_budget plan s (need_of_head p plan (record t { offered = true }) s) ≡ Budget)
offered_completes p plan t s = paid (nat_lt s.budget (s.spent + cost plan (need_of_head p plan (record t { offered = true }) s))) (need_of_head p plan (record t { offered = true }) s)
