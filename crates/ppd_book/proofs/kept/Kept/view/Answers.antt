use Rattle.std.proofs.lemmas.Grind.{common_steps, elements}
use Rattle.std.proofs.Common.{◌≡◌, rules, arith}
use Rattle.ppd_sem.specs.declared.proc.Need.TheVariants.{Plain}
use Rattle.ppd_model.specs.World.{need}
use Rattle.ppd_book.proofs.Views.{fresh_view}
use Rattle.ppd_book.proofs.kept.Kept.view.Goals as goal

pub invariant_of-result : goal.invariant_of-result
invariant_of-result g c =
    let plain : need c.self.inside.world.setting.program c.self.inside.world.setting.plan c.self.inside.world.world c.args.worker ≡ Plain = search rules in
    fresh_view g.J.Job.setting c.self.inside.world c.self.inside.schedule c.program.result.now c.plan.result.now c.args.worker c.proc-proc.result.now c.in_ok-copy_unprinted.field-0 c.in_ok-copy_unprinted-2.field-0
    c.self.invariant c.proc-proc.ensures c.program.ensures c.plan.ensures c.in_ok-copy_unprinted.ensures c.in_ok-copy_unprinted-2.ensures plain

pub next-requires : goal.next-requires
next-requires g c = search rules depth 1 fits 30

pub plan-requires : goal.plan-requires
plan-requires g c = search rules depth 1 fits 30

pub proc-proc-requires : goal.proc-proc-requires
proc-proc-requires g c = grind (arith, elements) steps 250000

pub program-requires : goal.program-requires
program-requires g c = search rules depth 1 fits 30

pub returns : goal.returns
returns g c = grind (arith, common_steps) steps 250000

pub returns-in_err-copy_unprinted : goal.returns-in_err-copy_unprinted
returns-in_err-copy_unprinted g c = grind (arith, common_steps) steps 250000

pub returns-in_err-copy_unprinted-2 : goal.returns-in_err-copy_unprinted-2
returns-in_err-copy_unprinted-2 g c = grind (arith, common_steps) steps 250000

pub returns-then-not-matches : goal.returns-then-not-matches
returns-then-not-matches g c = search rules depth 1 fits 30
