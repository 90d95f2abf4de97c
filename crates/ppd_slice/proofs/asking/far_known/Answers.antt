use Rattle.ppd_slice.proofs.Keeping.{far_fails, far_free_known, far_is, known_tabled, on_one}
use Rattle.ppd_slice.proofs.asking.far_known.Goals as goal

pub far_processes-requires : goal.far_processes-requires
far_processes-requires g c =
    known_tabled c.args.past.now c.with_kept-known.result c.as_slice.result c.args.kept.now.replays c.as_slice.ensures
    c.with_kept-known.ensures c.requires.past c.requires.kept.replays c.tables-tables.result
    (c.tables-tables.ensures c.args.past.now c.requires.kept.tables)

pub returns-clause-is : goal.returns-clause-is
returns-clause-is g c =
    far_is c.args.past.now c.with_kept-known.result c.as_slice.result c.args.kept.now.replays c.as_slice.ensures
    c.with_kept-known.ensures c.args.at c.args.steps.now c.far_processes.new.steps c.far_processes.result
    c.far_processes.ensures.is

pub returns-clause-cost : goal.returns-clause-cost
returns-clause-cost g c =
    on_one c.far_processes.result c.far_processes.ensures.cost
    (far_free_known c.args.past.now c.with_kept-known.result c.as_slice.result c.args.kept.now.replays c.as_slice.ensures
    c.with_kept-known.ensures c.args.at c.args.steps.now c.far_processes.new.steps c.requires.own)

pub returns-clause-error : goal.returns-clause-error
returns-clause-error g c =
    far_fails c.args.past.now c.with_kept-known.result c.as_slice.result c.args.kept.now.replays c.as_slice.ensures
    c.with_kept-known.ensures c.args.at c.args.steps.now c.far_processes.new.steps c.far_processes.result
    c.far_processes.ensures.error
