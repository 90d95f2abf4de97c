use Rattle.std.proofs.Common.{◌≤◌, ◌+◌, ◌∙◌, List, ap, arith, length, subst, sym}
use Rattle.ppd_emul.specs.Indexes.{rows_at}
use Rattle.ppd_model.specs.declared.flow.Item.{Item}
use Rattle.ppd_flow_past.specs.ByReplays.{AreReplayed}
use Rattle.ppd_flow_past.proofs.Given.{given_items, given_steps, none_items, none_steps, not_there}
use Rattle.ppd_flow_past.proofs.replaying.replayed.Goals as goal

pub returns-then-interval-count-clause-is : goal.returns-then-interval-count-clause-is
returns-then-interval-count-clause-is g c =
    let past = c.args.past.now in
    let far : length (rows_at past.cut_index.now.tables c.args.process) ≤ c.args.interval = subst
    (λ n. n ≤ c.args.interval) c.count.ensures c.if-interval-count.true in
    subst (λ (xs : List Item). AreReplayed past c.args.process c.args.interval xs) (sym c.new.ensures)
    (none_items past c.args.process c.args.interval
    (not_there past c.args.process c.args.interval c.requires.cut_index_is far))

pub returns-then-interval-count-clause-cost : goal.returns-then-interval-count-clause-cost
returns-then-interval-count-clause-cost g c =
    let past = c.args.past.now in
    let far : length (rows_at past.cut_index.now.tables c.args.process) ≤ c.args.interval = subst
    (λ n. n ≤ c.args.interval) c.count.ensures c.if-interval-count.true in
    let none = none_steps past c.args.process c.args.interval
    (not_there past c.args.process c.args.interval c.requires.cut_index_is far) in
    omega (arith, none)

pub emulate-requires-clause-depth : goal.emulate-requires-clause-depth
emulate-requires-clause-depth g c =
    (c.requires.fitting c.args.process c.args.interval c.log-log.result
    (c.log-log.ensures c.args.past.now.plan.now c.requires.cut_index_is)).depth

pub returns-in-Ok-clause-is : goal.returns-in-Ok-clause-is
returns-in-Ok-clause-is g c =
    given_items c.args.past.now c.args.process c.args.interval c.log-log.result
    (c.log-log.ensures c.args.past.now.plan.now c.requires.cut_index_is) c.in-Ok.trace c.in-Ok.ensures.answer

pub returns-in-Ok-clause-cost : goal.returns-in-Ok-clause-cost
returns-in-Ok-clause-cost g c =
    c.in-Ok.ensures.steps ∙ ap (λ n. c.args.steps.now + n)
    (sym (given_steps c.args.past.now c.args.process c.args.interval c.log-log.result
    (c.log-log.ensures c.args.past.now.plan.now c.requires.cut_index_is)))
