use Rattle.std.proofs.Common.{arith}
use Rattle.ppd_check.proofs.CheckCosts.{root_few}
use Rattle.ppd_check.proofs.checking.check_nodes.Goals as goal

pub returns-in_err-globals-clause-cost : goal.returns-in_err-globals-clause-cost
returns-in_err-globals-clause-cost g c = omega (arith, c.globals_of.ensures.cost, root_few c.args.source.nodes.now c.args.source.table, c.args.source.table.some)

pub returns-clause-cost : goal.returns-clause-cost
returns-clause-cost g c = omega (arith, c.globals_of.ensures.cost, c.write_table-done.ensures.cost, root_few c.args.source.nodes.now c.args.source.table, c.args.source.table.some)

pub checked_of-requires : goal.checked_of-requires
checked_of-requires c = omega arith

pub no_lists-lists-requires : goal.no_lists-lists-requires
no_lists-lists-requires c = omega arith

pub note_no_process-requires : goal.note_no_process-requires
note_no_process-requires c = omega arith
