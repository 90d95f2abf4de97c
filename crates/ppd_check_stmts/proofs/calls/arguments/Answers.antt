use Rattle.std.proofs.lemmas.Grind.{common_steps}
use Rattle.std.proofs.Common.{◌∙◌, arith, get_or, rules}
use Rattle.std.proofs.lemmas.List.{get_or_default}
use Rattle.ppd_check_stmts.proofs.Table.Arguments.{argued_more}
use Rattle.ppd_check_stmts.proofs.Costs.Children.{next_child, child_part, all_children}
use Rattle.ppd_check_stmts.proofs.calls.arguments.Goals as goal

pub loop-child-preserved : goal.loop-child-preserved
loop-child-preserved g c = record {
  stmts = c.argument.ensures.stmts ∙ c.loop-child.invariant.stmts;
  argued =
      argued_more c.args.source.nodes.now c.args.frame.now.scopes c.children_of-child-items.result.now c.loop-child.child-index (get_or c.children_of-child-items.result.now c.loop-child.child-index 0)
      c.args.table.now.exprs c.loop-child.table.exprs c.argument.new.table.exprs c.args.args.now c.loop-child.args c.argument.new.args c.args.table.now.found c.loop-child.table.found c.argument.new.table.found
      (omega (arith, c.loop-child-test.true))
      (get_or_default c.children_of-child-items.result.now c.loop-child.child-index 0 _ (omega (arith, c.loop-child-test.true)))
      c.loop-child.invariant.argued c.in_ok-argument.ensures.argued;
  cost = let more = next_child c.args.source.nodes.now c.loop-child.child-index c.children_of-child-items.result.now (omega (arith, c.loop-child-test.true)) in omega (arith, c.loop-child.invariant.cost, c.tick.ensures, c.in_ok-argument.ensures.cost, more.0, more.1, more.2);
}

pub returns-clause-cost : goal.returns-clause-cost
returns-clause-cost g c =
    let all = all_children c.args.source.nodes.now c.args.id c.loop-child.child-index c.children_of-child-items.result.now c.children_of-child-items.ensures.children (omega (arith, c.loop-child-test.false)) in
    omega (arith, c.loop-child.invariant.cost, all.0, all.1)

pub returns-in_err-argument-clause-cost : goal.returns-in_err-argument-clause-cost
returns-in_err-argument-clause-cost g c =
    let part = child_part c.args.source.nodes.now c.args.id c.loop-child.child-index c.children_of-child-items.result.now c.children_of-child-items.ensures.children (omega (arith, c.loop-child-test.true)) in
    omega (arith, c.loop-child.invariant.cost, c.tick.ensures, c.argument.ensures.cost, part.0, part.1, part.2)

pub argument-requires : goal.argument-requires
argument-requires g c = search rules depth 1 fits 30

pub branch-argument-requires : goal.branch-argument-requires
branch-argument-requires g c = search rules depth 1 fits 30

pub children_of-child-items-requires : goal.children_of-child-items-requires
children_of-child-items-requires g c = search rules depth 1 fits 30

pub loop-child-init : goal.loop-child-init
loop-child-init g c = search rules depth 1 fits 30

pub loop-child-smaller : goal.loop-child-smaller
loop-child-smaller g c = search rules depth 1 fits 30

pub returns-clause-argued : goal.returns-clause-argued
returns-clause-argued g c = grind (arith, common_steps) steps 250000

pub returns-clause-stmts : goal.returns-clause-stmts
returns-clause-stmts g c = search rules depth 1 fits 30

pub returns-in_err-argument-clause-argued : goal.returns-in_err-argument-clause-argued
returns-in_err-argument-clause-argued g c = grind (arith, common_steps) steps 250000

pub returns-in_err-argument-clause-stmts : goal.returns-in_err-argument-clause-stmts
returns-in_err-argument-clause-stmts g c = search rules depth 1 fits 30

pub tick-requires : goal.tick-requires
tick-requires g c = search rules depth 1 fits 30
