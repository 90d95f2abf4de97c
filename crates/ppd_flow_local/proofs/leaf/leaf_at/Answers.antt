use Rattle.std.proofs.Common.{◌≡◌, ◌∙◌, [], arith, ap, drop, sym}
use Rattle.std.proofs.lemmas.List.{drop_all}
use Rattle.ppd_graph.specs.Locals.{begun_scan}
use Rattle.ppd_flow_local.proofs.Scanned.{leaf_from, leaf_next, leaf_of_scan}
use Rattle.ppd_flow_local.proofs.leaf.leaf_at.Goals as goal

pub loop-i-init : goal.loop-i-init
loop-i-init c = sym (leaf_of_scan c.args.code.now.program.now c.args.code.now.plan.now 0 0 begun_scan c.args.items.now)

pub loop-i-preserved : goal.loop-i-preserved
loop-i-preserved c =
    leaf_next c.args.code.now.program.now c.args.code.now.plan.now c.loop-i.leaf _ c.args.items.now c.loop-i.i c.index-items-i.result _ c.loop-i-test.true c.index-items-i.is (grind (arith, c.leaf_past-leaf.ensures, c.in-Ok.ensures)) c.loop-i.invariant

pub returns : goal.returns
returns c =
    let none : drop c.loop-i.i c.args.items.now ≡ [] = drop_all c.loop-i.i c.args.items.now c.loop-i-test.false in
    ap (λ xs. leaf_from c.args.code.now.program.now c.args.code.now.plan.now c.loop-i.i c.loop-i.leaf xs) (sym none) ∙ c.loop-i.invariant
