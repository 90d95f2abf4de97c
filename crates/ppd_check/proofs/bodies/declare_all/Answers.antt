use Rattle.std.proofs.Common.{arith, get_or}
use Rattle.std.proofs.lemmas.List.{get_or_default}
use Rattle.ppd_check.proofs.Filling.{parametered_child, parametered_below}
use Rattle.ppd_check_stmts.proofs.Costs.Children.{next_child, child_part, all_children}
use Rattle.ppd_check.proofs.bodies.declare_all.Goals as goal

pub loop-child-preserved : goal.loop-child-preserved
loop-child-preserved g c = record {
  declares =
      parametered_child c.args.source.nodes.now c.children_of-child-items.result.now c.loop-child.child-index (get_or c.children_of-child-items.result.now c.loop-child.child-index 0)
      c.args.frame.now c.loop-child.frame c.declare_said.new.frame c.args.found.now c.loop-child.found c.declare_said.new.found
      (omega (arith, c.loop-child-test.true))
      (get_or_default c.children_of-child-items.result.now c.loop-child.child-index 0 _ (omega (arith, c.loop-child-test.true)))
      c.loop-child.invariant.declares c.in_ok-declare_said.ensures.declares;
  cost = let more = next_child c.args.source.nodes.now c.loop-child.child-index c.children_of-child-items.result.now (omega (arith, c.loop-child-test.true)) in omega (arith, c.loop-child.invariant.cost, c.tick.ensures, c.in_ok-declare_said.ensures.cost, more.0, more.1, more.2);
}

pub returns-clause-declares : goal.returns-clause-declares
returns-clause-declares g c =
    parametered_below c.args.source.nodes.now c.args.id c.loop-child.child-index c.children_of-child-items.result.now c.args.frame.now c.loop-child.frame c.args.found.now c.loop-child.found
    c.children_of-child-items.ensures.children (omega (arith, c.loop-child-test.false)) c.loop-child.invariant.declares

pub returns-clause-cost : goal.returns-clause-cost
returns-clause-cost g c =
    let all = all_children c.args.source.nodes.now c.args.id c.loop-child.child-index c.children_of-child-items.result.now c.children_of-child-items.ensures.children (omega (arith, c.loop-child-test.false)) in
    omega (arith, c.loop-child.invariant.cost, all.0, all.1)

pub returns-in_err-declare_said-clause-cost : goal.returns-in_err-declare_said-clause-cost
returns-in_err-declare_said-clause-cost g c =
    let part = child_part c.args.source.nodes.now c.args.id c.loop-child.child-index c.children_of-child-items.result.now c.children_of-child-items.ensures.children (omega (arith, c.loop-child-test.true)) in
    omega (arith, c.loop-child.invariant.cost, c.tick.ensures, c.declare_said.ensures.cost, part.0, part.1, part.2)

pub bounds-child-items-child-index : goal.bounds-child-items-child-index
bounds-child-items-child-index c = omega arith

pub children_of-child-items-requires : goal.children_of-child-items-requires
children_of-child-items-requires c = omega arith

pub declare_said-requires : goal.declare_said-requires
declare_said-requires c = omega arith

pub loop-child-smaller : goal.loop-child-smaller
loop-child-smaller c = omega arith

pub offset_bounds-child-items-child-index : goal.offset_bounds-child-items-child-index
offset_bounds-child-items-child-index c = omega arith
