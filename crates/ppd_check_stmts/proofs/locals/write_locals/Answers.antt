use Rattle.std.proofs.Common.{arith, get_or}
use Rattle.std.proofs.lemmas.List.{get_or_default}
use Rattle.ppd_check_stmts.proofs.Rows.Declaring.{locals_more}
use Rattle.ppd_check_stmts.proofs.Costs.Children.{next_child, child_part, all_children}
use Rattle.ppd_check_stmts.proofs.locals.write_locals.Goals as goal

pub loop-child-preserved : goal.loop-child-preserved
loop-child-preserved g c = record {
  walked =
      locals_more c.args.level.site c.args.level.source.nodes.now c.children_of-child-items.result.now c.loop-child.child-index (get_or c.children_of-child-items.result.now c.loop-child.child-index 0)
      c.args.frame.now c.loop-child.frame c.write_local.new.frame c.args.out.now.table c.loop-child.out.table c.write_local.new.out.table c.args.out.now.row c.loop-child.out.row c.write_local.new.out.row
      (omega (arith, c.loop-child-test.true))
      (get_or_default c.children_of-child-items.result.now c.loop-child.child-index 0 _ (omega (arith, c.loop-child-test.true)))
      c.loop-child.invariant.walked c.in_ok-write_local.ensures.wrote c.in_ok-write_local.ensures.frame;
  cost = let more = next_child c.args.level.source.nodes.now c.loop-child.child-index c.children_of-child-items.result.now (omega (arith, c.loop-child-test.true)) in omega (arith, c.loop-child.invariant.cost, c.tick.ensures, c.in_ok-write_local.ensures.cost, more.0, more.1, more.2);
}

pub returns-clause-cost : goal.returns-clause-cost
returns-clause-cost g c =
    let all = all_children c.args.level.source.nodes.now c.args.id c.loop-child.child-index c.children_of-child-items.result.now c.children_of-child-items.ensures.children (omega (arith, c.loop-child-test.false)) in
    omega (arith, c.loop-child.invariant.cost, all.0, all.1)

pub returns-in_err-write_local-clause-cost : goal.returns-in_err-write_local-clause-cost
returns-in_err-write_local-clause-cost g c =
    let part = child_part c.args.level.source.nodes.now c.args.id c.loop-child.child-index c.children_of-child-items.result.now c.children_of-child-items.ensures.children (omega (arith, c.loop-child-test.true)) in
    omega (arith, c.loop-child.invariant.cost, c.tick.ensures, c.write_local.ensures.cost, part.0, part.1, part.2)
