use Rattle.std.proofs.lemmas.Grind.{common_steps}
use Rattle.std.proofs.Common.{◌≡◌, ◌+◌, ◌≤◌, drop, sym, subst, arith, rules}
use Rattle.ppd_sem.specs.Process.{cost, head_deed}
use Rattle.ppd_sem.specs.declared.proc.Need.{Need}
use Rattle.ppd_sem.specs.declared.proc.Proc.{Proc}
use Rattle.ppd_sem.proofs.Paid.{need-paid}
use Rattle.ppd_sem.proofs.Progress.{SamePurse, asked_purse}
use Rattle.ppd_sem.proofs.Running.{head_is}
use Rattle.ppd_sem.proofs.feeding.step.Goals as goal

pub charge-requires-in_default : goal.charge-requires-in_default
charge-requires-in_default c =
    let before : Proc = c.args.proc.now in
    let after : Proc = c.act_on_head.new.proc in
    let same : SamePurse before after =
    subst (λ (t : Proc). SamePurse before t) (sym c.in_ok-act_on_head-in_default.ensures.ok) (asked_purse c.args.program.now c.args.answer.now c.args.todo (drop 1 before.todo) (head_deed c.args.program.now c.args.todo before) before) in
    let paid : before.spent + cost c.args.plan.now c.args.need ≤ before.budget =
    need-paid c.args.program.now c.args.plan.now before c.args.need (sym c.requires.need) c.in_default.not-Stopped c.in_default.not-Budget in
    let budget : after.budget ≡ before.budget = same.budget in
    let spent : after.spent ≡ before.spent = same.spent in
    let steps : after.steps ≡ before.steps = same.steps in
    let few : before.steps ≤ before.spent = c.requires.proc.steps in
    record { paid = omega arith; steps = omega arith }

pub act_on_head-requires : goal.act_on_head-requires
act_on_head-requires c =
    head_is c.args.program.now c.args.proc.now c.args.todo c.requires.program c.requires.proc c.requires.head

pub charge-requires-clause-paid : goal.charge-requires-clause-paid
charge-requires-clause-paid c =
    subst (λ (s : Proc). s.spent + cost c.args.plan.now c.args.need ≤ s.budget) (sym c.enter.ensures)
    (need-paid c.args.program.now c.args.plan.now c.args.proc.now c.args.need (sym c.requires.need) (λ e. absurd (cc (c.in-Enter.is, e))) (λ e. absurd (cc (c.in-Enter.is, e))))

pub charge-requires-clause-steps : goal.charge-requires-clause-steps
charge-requires-clause-steps c = subst (λ (s : Proc). s.steps ≤ s.spent) (sym c.enter.ensures) c.requires.proc.steps

pub charge-requires-in-Offer-clause-paid : goal.charge-requires-in-Offer-clause-paid
charge-requires-in-Offer-clause-paid c =
    subst (λ (s : Proc). s.spent + cost c.args.plan.now c.args.need ≤ s.budget) (sym c.offer.ensures)
    (need-paid c.args.program.now c.args.plan.now c.args.proc.now c.args.need (sym c.requires.need) (λ e. absurd (cc (c.in-Offer.is, e))) (λ e. absurd (cc (c.in-Offer.is, e))))

pub charge-requires-in-Offer-clause-steps : goal.charge-requires-in-Offer-clause-steps
charge-requires-in-Offer-clause-steps c = subst (λ (s : Proc). s.steps ≤ s.spent) (sym c.offer.ensures) c.requires.proc.steps

pub charge-requires-in-Done-clause-paid : goal.charge-requires-in-Done-clause-paid
charge-requires-in-Done-clause-paid c =
    subst (λ (s : Proc). s.spent + cost c.args.plan.now c.args.need ≤ s.budget) (sym c.finish.ensures)
    (need-paid c.args.program.now c.args.plan.now c.args.proc.now c.args.need (sym c.requires.need) (λ e. absurd (cc (c.in-Done.is, e))) (λ e. absurd (cc (c.in-Done.is, e))))

pub charge-requires-in-Done-clause-steps : goal.charge-requires-in-Done-clause-steps
charge-requires-in-Done-clause-steps c = subst (λ (s : Proc). s.steps ≤ s.spent) (sym c.finish.ensures) c.requires.proc.steps

pub charge-requires-in-Trap-clause-paid : goal.charge-requires-in-Trap-clause-paid
charge-requires-in-Trap-clause-paid c =
    subst (λ (n : Need). c.args.proc.now.spent + cost c.args.plan.now n ≤ c.args.proc.now.budget) c.in-Trap.is
    (need-paid c.args.program.now c.args.plan.now c.args.proc.now c.args.need (sym c.requires.need) (λ e. absurd (cc (c.in-Trap.is, e))) (λ e. absurd (cc (c.in-Trap.is, e))))

pub charge-requires-in-Trap-clause-steps : goal.charge-requires-in-Trap-clause-steps
charge-requires-in-Trap-clause-steps c = c.requires.proc.steps

pub enter-requires : goal.enter-requires
enter-requires c = grind (arith, common_steps) steps 250000

pub finish-requires : goal.finish-requires
finish-requires c = search rules depth 1 fits 30

pub from_residual-requires : goal.from_residual-requires
from_residual-requires c = search rules depth 1 fits 30

pub offer-requires : goal.offer-requires
offer-requires c = grind (arith, common_steps) steps 250000

pub returns-in-Budget : goal.returns-in-Budget
returns-in-Budget c = search rules depth 1 fits 30

pub returns-in-Done : goal.returns-in-Done
returns-in-Done c = search rules depth 1 fits 30

pub returns-in-Enter : goal.returns-in-Enter
returns-in-Enter c = search rules depth 1 fits 30

pub returns-in-Offer : goal.returns-in-Offer
returns-in-Offer c = search rules depth 1 fits 30

pub returns-in-Stopped : goal.returns-in-Stopped
returns-in-Stopped c = search rules depth 1 fits 30

pub returns-in-Trap : goal.returns-in-Trap
returns-in-Trap c = search rules depth 1 fits 30
