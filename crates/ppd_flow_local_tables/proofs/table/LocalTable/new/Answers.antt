use Rattle.std.proofs.Common.{arith, length-take-le}
use Rattle.ppd_flow_local_tables.proofs.Growth.{built_new, built_next, built_whole}
use Rattle.ppd_flow_local_tables.proofs.table.LocalTable.new.Goals as goal

pub loop-item-init : goal.loop-item-init
loop-item-init c = built_new c.args.program.now c.args.plan.now c.in_ok-building.building c.in_ok-building.ensures

pub item-requires-clause-ready : goal.item-requires-clause-ready
item-requires-clause-ready c = c.loop-item.invariant.ready

pub item-requires-clause-room : goal.item-requires-clause-room
item-requires-clause-room c =
    let at = length-take-le c.loop-item.item-index c.args.items.now (omega arith) in
    omega (arith, at, c.loop-item.invariant.next, c.in_ok-fits.ensures)

pub loop-item-preserved : goal.loop-item-preserved
loop-item-preserved c =
    built_next c.args.program.now c.args.plan.now c.args.items.now c.loop-item.item-index c.item-item.result
    c.loop-item.building c.item.new.self c.loop-item-test.true c.item-item.is c.loop-item.invariant
    c.in_ok-item.ensures

pub returns : goal.returns
returns c =
    built_whole c.args.program.now c.args.plan.now c.args.items.now c.loop-item.item-index c.loop-item.building
    c.loop-item-test.false c.loop-item.invariant
