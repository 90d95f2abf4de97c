use Rattle.std.proofs.Common.{◌∙◌, ap, arith, get_or}
use Rattle.std.proofs.lemmas.List.{get_or_default}
use Rattle.ppd_check.specs.Endings.{with_rest}
use Rattle.ppd_check.proofs.Ended.{locals_ended, locals_all}
use Rattle.ppd_check.proofs.endings.ending_of_locals.Goals as goal

pub loop-child-preserved : goal.loop-child-preserved
loop-child-preserved g c = record {
  ending =
      locals_ended c.args.source.nodes.now c.children_of-child-items.result.now c.loop-child.child-index (get_or c.children_of-child-items.result.now c.loop-child.child-index 0)
      c.loop-child.last c.with_rest-last.result
      (omega (arith, c.loop-child-test.true))
      (get_or_default c.children_of-child-items.result.now c.loop-child.child-index 0 _ (omega (arith, c.loop-child-test.true)))
      c.loop-child.invariant.ending (c.with_rest-last.ensures ∙ ap (with_rest c.loop-child.last) c.ending_of_local.ensures);
  cost = omega (arith, c.loop-child.invariant.cost, c.tick.ensures);
}

pub returns-clause-ending : goal.returns-clause-ending
returns-clause-ending g c =
    locals_all c.args.source.nodes.now c.args.id c.loop-child.child-index c.children_of-child-items.result.now c.loop-child.last c.children_of-child-items.ensures.children
    (omega (arith, c.loop-child-test.false)) c.loop-child.invariant.ending
