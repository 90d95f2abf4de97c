use Rattle.ppd_blocks.proofs.Validity.{plan_is, plan_good, as_plan}
use Rattle.ppd_blocks.proofs.plan.plan_with.Goals as goal

pub returns-clause-plan : goal.returns-clause-plan
returns-clause-plan c =
    let p = c.args.program.now in
    let policy = c.args.policy.now in
    as_plan p policy c.requires.program c.in_ok-blocks.blocks c.in_ok-units.units
    (plan_is p policy c.requires.program c.args.plain.now c.in_ok-blocks.blocks c.in_ok-units.units c.requires.blocks c.in_ok-units.ensures c.in_ok-blocks.ensures)

pub returns-clause-valid : goal.returns-clause-valid
returns-clause-valid c =
    let p = c.args.program.now in
    let policy = c.args.policy.now in
    plan_good p policy c.requires.program c.in_ok-blocks.blocks c.in_ok-units.units
    (plan_is p policy c.requires.program c.args.plain.now c.in_ok-blocks.blocks c.in_ok-units.units c.requires.blocks c.in_ok-units.ensures c.in_ok-blocks.ensures)
    c.requires.policy
