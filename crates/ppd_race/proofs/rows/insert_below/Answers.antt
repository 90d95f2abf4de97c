use Rattle.std.proofs.Common.{rules, ◌<◌}
use Rattle.ppd_ast.specs.declared.limits.TheConstants.{MOST_SHARED_CELLS}
use Rattle.ppd_race.proofs.BusyRows.{one_below}
use Rattle.ppd_race.proofs.rows.insert_below.Goals as goal

pub returns-clause-below : goal.returns-clause-below
returns-clause-below c = λ below.
    let lt : c.args.cell < MOST_SHARED_CELLS = search rules in
    one_below c.args.cell c.args.set.now c.insert.new.self lt c.insert.ensures.cells below
