use Rattle.ppd_slice.proofs.Keeping.{edges_err, edges_free_known, edges_ok, known_tabled}
use Rattle.ppd_slice.proofs.asking.edges_known.Goals as goal

pub edges_by_tables-requires : goal.edges_by_tables-requires
edges_by_tables-requires g c =
    known_tabled c.args.past.now c.with_kept-known.result c.as_slice.result c.args.kept.now.replays c.as_slice.ensures
    c.with_kept-known.ensures c.requires.past c.requires.kept.replays c.tables-tables.result
    (c.tables-tables.ensures c.args.past.now c.requires.kept.tables)

pub returns-in-Ok-clause-is : goal.returns-in-Ok-clause-is
returns-in-Ok-clause-is g c =
    edges_ok c.args.past.now c.with_kept-known.result c.as_slice.result c.args.kept.now.replays c.as_slice.ensures
    c.with_kept-known.ensures c.args.at c.args.steps.now c.edges_by_tables.new.steps c.requires.own c.requires.far c.in-Ok.edges
    c.in-Ok.ensures.found

pub returns-in-Ok-clause-cost : goal.returns-in-Ok-clause-cost
returns-in-Ok-clause-cost g c =
    edges_free_known c.args.past.now c.with_kept-known.result c.as_slice.result c.args.kept.now.replays c.as_slice.ensures
    c.with_kept-known.ensures c.args.at c.args.steps.now c.edges_by_tables.new.steps c.requires.own c.requires.far c.in-Ok.edges
    c.in-Ok.ensures.found

pub returns-in-Err-clause-is : goal.returns-in-Err-clause-is
returns-in-Err-clause-is g c =
    edges_err c.args.past.now c.with_kept-known.result c.as_slice.result c.args.kept.now.replays c.as_slice.ensures
    c.with_kept-known.ensures c.args.at c.args.steps.now c.edges_by_tables.new.steps c.requires.own c.requires.far c.in-Err.error
    c.requires.there c.in-Err.ensures.found
