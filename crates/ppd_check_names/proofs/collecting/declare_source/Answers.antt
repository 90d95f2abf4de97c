use Rattle.ppd_check_names.specs.Reading.{as_items}
use Rattle.ppd_check_names.specs.Nodes.{phrase_of}
use Rattle.ppd_check_names.proofs.Declared.Walks.{noted_source}
use Rattle.std.proofs.Common.{arith, ap}
use Rattle.ppd_check_names.specs.Cost.{starts_left, heads_nodes}
use Rattle.ppd_check_names.proofs.Declared.Costs.{left_nothing, heads_nothing}
use Rattle.ppd_check_names.proofs.collecting.declare_source.Goals as goal
use Rattle.std.proofs.lemmas.Grind.{common_steps}

pub returns-clause-faults : goal.returns-clause-faults
returns-clause-faults g c =
    noted_source c.args.source.nodes.now (as_items (phrase_of c.args.source.nodes.now 0)) c.in_ok-globals.globals c.declare_node.new.globals c.args.found.now c.declare_node.new.found
    c.in_ok-globals.ensures.value c.in_ok-declare_node.ensures.declares

pub returns-clause-cost : goal.returns-clause-cost
returns-clause-cost g c =
    omega (arith, c.no_globals.ensures.cost, c.declare_node.ensures.cost, ap starts_left c.in_ok-globals.ensures.value, left_nothing)

pub returns-in_err-declare_node-clause-cost : goal.returns-in_err-declare_node-clause-cost
returns-in_err-declare_node-clause-cost g c =
    omega (arith, c.no_globals.ensures.cost, c.declare_node.ensures.cost, ap starts_left c.in_ok-globals.ensures.value, left_nothing)

pub returns-clause-heads : goal.returns-clause-heads
returns-clause-heads g c =
    omega (arith, c.in_ok-declare_node.ensures.heads, ap (heads_nodes c.args.source.nodes.now) c.in_ok-globals.ensures.value, heads_nothing c.args.source.nodes.now)

pub declare_node-requires : goal.declare_node-requires
declare_node-requires c = omega arith

pub returns-in_err-globals : goal.returns-in_err-globals
returns-in_err-globals c = grind (arith, common_steps) steps 250000
