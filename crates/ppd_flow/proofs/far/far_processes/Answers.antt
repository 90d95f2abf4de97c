use Rattle.std.proofs.lemmas.Grind.{common_steps}
use Rattle.std.proofs.Common.{◌≡◌, ◌∷◌, ◌∙◌, [], List, Option, Some, IfOk, ap, sym, subst, ℕ, rules, arith}
use Rattle.ppd_model.specs.declared.flow.Item.{Item}
use Rattle.ppd_flow_past.proofs.Keeping.{on_both}
use Rattle.ppd_flow.proofs.FarProcesses.{far_absent, far_there, rose_then}
use Rattle.ppd_flow.proofs.ItemEdges.{item_there, items_are, none_there}
use Rattle.ppd_flow.proofs.far.far_processes.Goals as goal

pub returns-then-at-items-clause-is : goal.returns-then-at-items-clause-is
returns-then-at-items-clause-is g c =
    far_absent c.args.past.now c.args.at.process c.args.at.interval c.args.at.item c.in_ok-items.items
    (items_are c.args.past.now c.args.at.process c.args.at.interval c.args.at.item c.args.steps.now c.items.new.steps
    c.in_ok-items.items c.in_ok-items.ensures)
    c.new.result c.new.ensures
    (none_there c.as_slice-items.result.now c.in_ok-items.items c.args.at.item c.as_slice-items.ensures
    c.if-at-items.true)

pub returns-then-at-items-clause-cost : goal.returns-then-at-items-clause-cost
returns-then-at-items-clause-cost g c = (c.args.at.interval ∷ [], c.in_ok-items.ensures.2)

pub returns-in-Own-clause-is : goal.returns-in-Own-clause-is
returns-in-Own-clause-is g c =
    let are = items_are c.args.past.now c.args.at.process c.args.at.interval c.args.at.item c.args.steps.now c.items.new.steps
    c.in_ok-items.items c.in_ok-items.ensures in
    let there = item_there c.as_slice-items.result.now c.in_ok-items.items c.args.at.item c.index-items-at.result
    c.as_slice-items.ensures c.if-at-items.false c.index-items-at.is
    ∙ ap (λ (t : Item). Some t) c.in-Own.is in
    subst (λ (xs : List ℕ). IfOk c.event_processes.result (λ found. found ≡ xs))
    (sym (far_there c.args.past.now c.args.at.process c.args.at.interval c.args.at.item c.in_ok-items.items are _ there))
    c.event_processes.ensures.is

pub returns-in-Own-clause-cost : goal.returns-in-Own-clause-cost
returns-in-Own-clause-cost g c =
    on_both c.event_processes.result c.event_processes.ensures.cost c.event_processes.ensures.cost
    (λ rose same. rose_then c.args.past.now c.args.at.process c.args.steps.now c.items.new.steps
    c.event_processes.new.steps (c.args.at.interval ∷ [], c.in_ok-items.ensures.2) rose)

pub returns-clause-is : goal.returns-clause-is
returns-clause-is g c =
    let are = items_are c.args.past.now c.args.at.process c.args.at.interval c.args.at.item c.args.steps.now c.items.new.steps
    c.in_ok-items.items c.in_ok-items.ensures in
    let there = item_there c.as_slice-items.result.now c.in_ok-items.items c.args.at.item c.index-items-at.result
    c.as_slice-items.ensures c.if-at-items.false c.index-items-at.is
    ∙ ap (λ (t : Item). Some t) c.in-Nested.is in
    c.new-in-Nested.ensures
    ∙ sym (far_there c.args.past.now c.args.at.process c.args.at.interval c.args.at.item c.in_ok-items.items are _ there)

pub returns-clause-cost : goal.returns-clause-cost
returns-clause-cost g c = (c.args.at.interval ∷ [], c.in_ok-items.ensures.2)

pub as_slice-items-requires : goal.as_slice-items-requires
as_slice-items-requires c = search rules depth 1 fits 30

pub items-requires : goal.items-requires
items-requires c = search rules depth 1 fits 30

pub new-requires : goal.new-requires
new-requires c = search rules depth 1 fits 30

pub new-requires-in-Nested : goal.new-requires-in-Nested
new-requires-in-Nested c = search rules depth 1 fits 30

pub returns-clause-error : goal.returns-clause-error
returns-clause-error c = grind (arith, common_steps) steps 250000

pub returns-in-Own-clause-error : goal.returns-in-Own-clause-error
returns-in-Own-clause-error c = grind (arith, common_steps) steps 250000

pub returns-in_err-items-clause-cost : goal.returns-in_err-items-clause-cost
returns-in_err-items-clause-cost c = grind (arith, common_steps) steps 250000

pub returns-in_err-items-clause-is : goal.returns-in_err-items-clause-is
returns-in_err-items-clause-is c = grind (arith, common_steps) steps 250000

pub returns-then-at-items-clause-error : goal.returns-then-at-items-clause-error
returns-then-at-items-clause-error c = grind (arith, common_steps) steps 250000
