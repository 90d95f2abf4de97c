use Rattle.std.proofs.Common.{arith}
use Rattle.ppd_race_found.proofs.OverCell.{over_cell}
use Rattle.ppd_race_found.proofs.found.add_cell.Goals as goal

pub listed-readers-requires : goal.listed-readers-requires
listed-readers-requires g c = omega (arith, c.requires.cell, c.requires.whole.readers)

pub listed-writers-requires : goal.listed-writers-requires
listed-writers-requires g c = omega (arith, c.requires.cell, c.requires.whole.writers)

pub returns-clause-grows : goal.returns-clause-grows
returns-clause-grows g c =
    over_cell c.args.graph.now c.args.lists.now c.args.b.now c.args.cell c.contains-reads.result c.contains-writes.result c.listed-readers.result.now c.listed-writers.result.now
    c.against-read_write.result c.against-write_read.result c.against-write_write.result c.args.found.now.items c.add_if.new.found.items c.add_if-2.new.found.items c.add_if-3.new.found.items
    c.requires.cell c.contains-reads.ensures c.contains-writes.ensures c.listed-readers.ensures c.listed-writers.ensures c.against-read_write.ensures c.against-write_read.ensures c.against-write_write.ensures
    c.in_ok-add_if.ensures.grows c.in_ok-add_if-2.ensures.grows c.in_ok-add_if-3.ensures.grows
