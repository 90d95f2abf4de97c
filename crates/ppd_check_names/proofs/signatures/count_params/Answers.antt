use Rattle.std.proofs.Common.{arith, get_or, length, ◌<◌}
use Rattle.ppd_check_names.proofs.Declared.Parameters.{params_all, params_more}
use Rattle.ppd_check_names.proofs.Table.Costs.{walked_all, walked_more, walked_part}
use Rattle.std.proofs.lemmas.List.{get_or_default}
use Rattle.ppd_check_names.proofs.signatures.count_params.Goals as goal

pub returns-clause-value : goal.returns-clause-value
returns-clause-value g c =
    params_all c.args.source.nodes.now c.args.id c.loop-child.child-index c.loop-child.count c.children_of-child-items.result.now c.children_of-child-items.ensures.children
    (omega (arith, c.loop-child-test.false)) c.loop-child.invariant.count

pub returns-clause-cost : goal.returns-clause-cost
returns-clause-cost g c =
    let all = walked_all c.args.source.nodes.now c.args.id c.children_of-child-items.result.now c.loop-child.child-index c.children_of-child-items.ensures.children (omega (arith, c.loop-child-test.false)) in
    omega (arith, c.loop-child.invariant.cost)

pub returns-in_err-count_said-clause-cost : goal.returns-in_err-count_said-clause-cost
returns-in_err-count_said-clause-cost g c =
    let part = walked_part c.args.source.nodes.now c.args.id c.children_of-child-items.result.now c.loop-child.child-index c.children_of-child-items.ensures.children (omega (arith, c.loop-child-test.true)) in
    omega (arith, c.loop-child.invariant.cost, c.tick.ensures, c.count_said.ensures.cost)

pub returns-in_err-count-clause-cost : goal.returns-in_err-count-clause-cost
returns-in_err-count-clause-cost g c =
    let part = walked_part c.args.source.nodes.now c.args.id c.children_of-child-items.result.now c.loop-child.child-index c.children_of-child-items.ensures.children (omega (arith, c.loop-child-test.true)) in
    omega (arith, c.loop-child.invariant.cost, c.tick.ensures, c.count_said.ensures.cost)

pub loop-child-preserved : goal.loop-child-preserved
loop-child-preserved g c =
    let ns = c.args.source.nodes.now in
    let cs = c.children_of-child-items.result.now in
    let k = c.loop-child.child-index in
    let here : k < length cs = omega (arith, c.loop-child-test.true) in
    let more = walked_more ns cs k here in
    record {
      count = params_more ns cs k (get_or cs k 0) c.loop-child.count c.in_ok-count_said.field-0 c.in_ok-count.count here (get_or_default cs k 0 _ here) c.loop-child.invariant.count c.in_ok-count_said.ensures.value c.in_ok-count.ensures;
      cost = omega (arith, c.loop-child.invariant.cost, c.tick.ensures, c.count_said.ensures.cost);
    }

pub bounds-child-items-child-index : goal.bounds-child-items-child-index
bounds-child-items-child-index c = omega arith

pub children_of-child-items-requires : goal.children_of-child-items-requires
children_of-child-items-requires c = omega arith

pub count_said-requires : goal.count_said-requires
count_said-requires c = omega arith

pub loop-child-init : goal.loop-child-init
loop-child-init c = omega arith

pub loop-child-smaller : goal.loop-child-smaller
loop-child-smaller c = omega arith

pub offset_bounds-child-items-child-index : goal.offset_bounds-child-items-child-index
offset_bounds-child-items-child-index c = omega arith

pub sum-requires : goal.sum-requires
sum-requires c = omega arith
