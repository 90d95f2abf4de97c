use Rattle.std.proofs.Common.{arith, ap, subst, get_or, length, ◌<◌}
use Rattle.std.proofs.lemmas.List.{get_or_default}
use Rattle.ppd_check_names.proofs.Declared.Costs.{left_same, heads_same, heads_function, heads_process, ok_any, phrases_few}
use Rattle.ppd_check_names.proofs.Table.Costs.{walked_all, walked_more, walked_part, nodes_apart, nodes_step, some_nodes_at}
use Rattle.ppd_check_names.specs.declared.globals.Globals.{Globals}
use Rattle.ppd_check_names.specs.Reading.{as_items}
use Rattle.ppd_check_names.specs.Nodes.{SaysBy, label_name, phrase_of, phrases_below}
use Rattle.ppd_check_names.proofs.Found.Outcomes.{both_ok, ok_map}
use Rattle.ppd_check_names.proofs.Declared.Parameters.{declares_process_at}
use Rattle.ppd_check_names.proofs.Declared.Walks.{declares_next, declares_below, declares_said}
use Rattle.ppd_check_names.proofs.collecting.+declarations.Goals as goal

pub declare_below-loop-child-preserved : goal.declare_below-loop-child-preserved
declare_below-loop-child-preserved g t c =
    let ns = c.args.source.nodes.now in
    let cs = c.children_of-child-items.result.now in
    let k = c.loop-child.child-index in
    let here : k < length cs = omega (arith, c.loop-child-test.true) in
    let more = walked_more ns cs k here in
    record {
      declares =
          declares_next ns cs k (get_or cs k 0)
          c.args.globals.now c.loop-child.globals c.declare_node.new.globals c.args.found.now c.loop-child.found c.declare_node.new.found
          (omega (arith, here))
          (get_or_default cs k 0 _ (omega (arith, here)))
          c.loop-child.invariant.declares c.in_ok-declare_node.ensures.declares;
      cost = omega (arith, c.loop-child.invariant.cost, c.tick-in-loop-child.ensures, c.in_ok-declare_node.ensures.cost, nodes_apart ns (get_or cs k 0));
      heads = omega (arith, c.loop-child.invariant.heads, c.in_ok-declare_node.ensures.heads, nodes_apart ns (get_or cs k 0));
    }

pub declare_below-returns-clause-declares : goal.declare_below-returns-clause-declares
declare_below-returns-clause-declares g t c =
    declares_below c.args.source.nodes.now c.args.id c.loop-child.child-index c.children_of-child-items.result.now c.args.globals.now c.loop-child.globals c.args.found.now c.loop-child.found
    c.children_of-child-items.ensures.children (omega (arith, c.loop-child-test.false)) c.loop-child.invariant.declares

pub declare_below-returns-clause-cost : goal.declare_below-returns-clause-cost
declare_below-returns-clause-cost g t c =
    let all = walked_all c.args.source.nodes.now c.args.id c.children_of-child-items.result.now c.loop-child.child-index c.children_of-child-items.ensures.children (omega (arith, c.loop-child-test.false)) in
    omega (arith, c.loop-child.invariant.cost)

pub declare_below-returns-clause-heads : goal.declare_below-returns-clause-heads
declare_below-returns-clause-heads g t c =
    let all = walked_all c.args.source.nodes.now c.args.id c.children_of-child-items.result.now c.loop-child.child-index c.children_of-child-items.ensures.children (omega (arith, c.loop-child-test.false)) in
    omega (arith, c.loop-child.invariant.heads)

pub declare_node-returns-in-Source-clause-cost : goal.declare_node-returns-in-Source-clause-cost
declare_node-returns-in-Source-clause-cost g t c = omega (arith, c.tick.ensures, c.declare_below.ensures.cost, nodes_step c.args.source.nodes.now c.args.id c.args.source.table c.requires.within)

pub declare_node-returns-in-Source-clause-heads : goal.declare_node-returns-in-Source-clause-heads
declare_node-returns-in-Source-clause-heads g t c = ok_map c.declare_below.result _ _ (λ h. omega (arith, h, nodes_step c.args.source.nodes.now c.args.id c.args.source.table c.requires.within)) c.declare_below.ensures.heads

pub declare_node-returns-in-Shared-clause-cost : goal.declare_node-returns-in-Shared-clause-cost
declare_node-returns-in-Shared-clause-cost g t c = omega (arith, c.tick.ensures, c.declare_below-in-Shared.ensures.cost, nodes_step c.args.source.nodes.now c.args.id c.args.source.table c.requires.within)

pub declare_node-returns-in-Shared-clause-heads : goal.declare_node-returns-in-Shared-clause-heads
declare_node-returns-in-Shared-clause-heads g t c = ok_map c.declare_below-in-Shared.result _ _ (λ h. omega (arith, h, nodes_step c.args.source.nodes.now c.args.id c.args.source.table c.requires.within)) c.declare_below-in-Shared.ensures.heads

pub declare_node-returns-in-Sitem-clause-cost : goal.declare_node-returns-in-Sitem-clause-cost
declare_node-returns-in-Sitem-clause-cost g t c = omega (arith, c.tick.ensures, c.declare_shared.ensures.cost, nodes_step c.args.source.nodes.now c.args.id c.args.source.table c.requires.within)

pub declare_node-returns-in-Sitem-clause-heads : goal.declare_node-returns-in-Sitem-clause-heads
declare_node-returns-in-Sitem-clause-heads g t c = ok_any c.declare_shared.result _ (omega (arith, heads_same c.args.source.nodes.now c.args.globals.now c.declare_shared.new.globals c.declare_shared.ensures.heads))

pub declare_node-returns-in-Sems-clause-cost : goal.declare_node-returns-in-Sems-clause-cost
declare_node-returns-in-Sems-clause-cost g t c = omega (arith, c.tick.ensures, c.declare_objects.ensures.cost, phrases_few c.args.source.nodes.now c.args.id, nodes_step c.args.source.nodes.now c.args.id c.args.source.table c.requires.within)

pub declare_node-returns-in-Sems-clause-heads : goal.declare_node-returns-in-Sems-clause-heads
declare_node-returns-in-Sems-clause-heads g t c = ok_any c.declare_objects.result _ (omega (arith, heads_same c.args.source.nodes.now c.args.globals.now c.declare_objects.new.globals c.declare_objects.ensures.heads))

pub declare_node-returns-in-Chans-clause-cost : goal.declare_node-returns-in-Chans-clause-cost
declare_node-returns-in-Chans-clause-cost g t c = omega (arith, c.tick.ensures, c.declare_objects-in-Chans.ensures.cost, phrases_few c.args.source.nodes.now c.args.id, nodes_step c.args.source.nodes.now c.args.id c.args.source.table c.requires.within)

pub declare_node-returns-in-Chans-clause-heads : goal.declare_node-returns-in-Chans-clause-heads
declare_node-returns-in-Chans-clause-heads g t c = ok_any c.declare_objects-in-Chans.result _ (omega (arith, heads_same c.args.source.nodes.now c.args.globals.now c.declare_objects-in-Chans.new.globals c.declare_objects-in-Chans.ensures.heads))

pub declare_node-returns-in-Function-clause-cost : goal.declare_node-returns-in-Function-clause-cost
declare_node-returns-in-Function-clause-cost g t c = omega (arith, c.tick.ensures, c.declare_function.ensures.cost, left_same c.args.globals.now c.declare_function.new.globals c.declare_function.ensures.cells, nodes_step c.args.source.nodes.now c.args.id c.args.source.table c.requires.within)

pub declare_node-returns-in-Function-clause-heads : goal.declare_node-returns-in-Function-clause-heads
declare_node-returns-in-Function-clause-heads g t c = ok_map c.declare_function.result _ _ (λ h. omega (arith, heads_function c.args.source.nodes.now c.args.globals.now c.declare_function.new.globals c.args.id h.0 h.1)) c.declare_function.ensures.heads

pub declare_node-returns-in-Process-clause-declares : goal.declare_node-returns-in-Process-clause-declares
declare_node-returns-in-Process-clause-declares g t c =
    let ns = c.args.source.nodes.now in
    let says = subst (λ r. SaysBy r (phrases_below ns c.args.id) (phrase_of ns c.args.id)) c.in-Process.is c.rule_of.ensures.said in
    both_ok c.add_process.result _ _ _ c.add_process.ensures.globals c.add_process.ensures.faults
    (λ e w. declares_process_at ns c.args.id (label_name c.label_at.result)
    c.args.globals.now c.add_process.new.globals c.args.found.now c.add_process.new.found c.requires.within says c.label_at.ensures e w)

pub declare_node-returns-in-Process-clause-cost : goal.declare_node-returns-in-Process-clause-cost
declare_node-returns-in-Process-clause-cost g t c = omega (arith, c.tick.ensures, c.add_process.ensures.cost, left_same c.args.globals.now c.add_process.new.globals c.add_process.ensures.cells, nodes_step c.args.source.nodes.now c.args.id c.args.source.table c.requires.within)

pub declare_node-returns-in-Process-clause-heads : goal.declare_node-returns-in-Process-clause-heads
declare_node-returns-in-Process-clause-heads g t c =
    ok_map c.add_process.result _ _
    (λ e. omega (arith, heads_process c.args.source.nodes.now c.args.globals.now c.add_process.new.globals c.args.id (ap (λ (h : Globals). h.functions) e) (ap (λ (h : Globals). h.processes) e)))
    c.add_process.ensures.globals

pub declare_node-returns-in_default-clause-cost : goal.declare_node-returns-in_default-clause-cost
declare_node-returns-in_default-clause-cost g t c = omega (arith, c.tick.ensures, some_nodes_at c.args.source.nodes.now c.args.id)

pub declare_below-returns-in_err-declare_node-clause-cost : goal.declare_below-returns-in_err-declare_node-clause-cost
declare_below-returns-in_err-declare_node-clause-cost g t c =
    let part = walked_part c.args.source.nodes.now c.args.id c.children_of-child-items.result.now c.loop-child.child-index c.children_of-child-items.ensures.children (omega (arith, c.loop-child-test.true)) in
    omega (arith, c.loop-child.invariant.cost, c.tick-in-loop-child.ensures, c.declare_node.ensures.cost, nodes_apart c.args.source.nodes.now (get_or c.children_of-child-items.result.now c.loop-child.child-index 0))

pub declare_node-returns-in-Source-clause-declares : goal.declare_node-returns-in-Source-clause-declares
declare_node-returns-in-Source-clause-declares g t c =
    let ns = c.args.source.nodes.now in
    let says = subst (λ r. SaysBy r (phrases_below ns c.args.id) (phrase_of ns c.args.id)) c.in-Source.is c.rule_of.ensures.said in
    ok_map c.declare_below.result _ _ (λ h. declares_said ns (phrase_of ns c.args.id) _ c.args.globals.now c.declare_below.new.globals c.args.found.now c.declare_below.new.found (ap as_items says) h) c.declare_below.ensures.declares

pub declare_node-returns-in-Shared-clause-declares : goal.declare_node-returns-in-Shared-clause-declares
declare_node-returns-in-Shared-clause-declares g t c =
    let ns = c.args.source.nodes.now in
    let says = subst (λ r. SaysBy r (phrases_below ns c.args.id) (phrase_of ns c.args.id)) c.in-Shared.is c.rule_of.ensures.said in
    ok_map c.declare_below-in-Shared.result _ _ (λ h. declares_said ns (phrase_of ns c.args.id) _ c.args.globals.now c.declare_below-in-Shared.new.globals c.args.found.now c.declare_below-in-Shared.new.found (ap as_items says) h) c.declare_below-in-Shared.ensures.declares

pub declare_node-returns-in-Sitem-clause-declares : goal.declare_node-returns-in-Sitem-clause-declares
declare_node-returns-in-Sitem-clause-declares g t c =
    let ns = c.args.source.nodes.now in
    let says = subst (λ r. SaysBy r (phrases_below ns c.args.id) (phrase_of ns c.args.id)) c.in-Sitem.is c.rule_of.ensures.said in
    ok_map c.declare_shared.result _ _ (λ h. declares_said ns (phrase_of ns c.args.id) _ c.args.globals.now c.declare_shared.new.globals c.args.found.now c.declare_shared.new.found (ap as_items says) (h ns)) c.declare_shared.ensures.declares

pub declare_node-returns-in-Sems-clause-declares : goal.declare_node-returns-in-Sems-clause-declares
declare_node-returns-in-Sems-clause-declares g t c =
    let ns = c.args.source.nodes.now in
    let says = subst (λ r. SaysBy r (phrases_below ns c.args.id) (phrase_of ns c.args.id)) c.in-Sems.is c.rule_of.ensures.said in
    ok_map c.declare_objects.result _ _ (λ h. declares_said ns (phrase_of ns c.args.id) _ c.args.globals.now c.declare_objects.new.globals c.args.found.now c.declare_objects.new.found (ap as_items says) (h ns)) c.declare_objects.ensures.declares

pub declare_node-returns-in-Chans-clause-declares : goal.declare_node-returns-in-Chans-clause-declares
declare_node-returns-in-Chans-clause-declares g t c =
    let ns = c.args.source.nodes.now in
    let says = subst (λ r. SaysBy r (phrases_below ns c.args.id) (phrase_of ns c.args.id)) c.in-Chans.is c.rule_of.ensures.said in
    ok_map c.declare_objects-in-Chans.result _ _ (λ h. declares_said ns (phrase_of ns c.args.id) _ c.args.globals.now c.declare_objects-in-Chans.new.globals c.args.found.now c.declare_objects-in-Chans.new.found (ap as_items says) (h ns)) c.declare_objects-in-Chans.ensures.declares
