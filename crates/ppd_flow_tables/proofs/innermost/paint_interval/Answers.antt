use Rattle.std.proofs.Common.{◌∙◌, None, Some, ap, get_or, if◌then◌else◌}
use Rattle.ppd_flow_past.proofs.Edges.Standing.{stands_is}
use Rattle.ppd_flow_tables.proofs.innermost.paint_interval.Goals as goal

pub returns-in-Some-clause-is : goal.returns-in-Some-clause-is
returns-in-Some-clause-is c = λ n lt.
    c.paint.ensures.is n lt
    ∙ ap (λ b. if b then c.args.interval else get_or c.args.innermost.now n 0)
    (stands_is c.args.past.now c.args.process c.args.interval c.requires.index_is n (Some c.in-Some.found)
    c.in-Some.ensures)

pub returns-in-None-clause-is : goal.returns-in-None-clause-is
returns-in-None-clause-is c = λ n lt.
    ap (λ b. if b then c.args.interval else get_or c.args.innermost.now n 0)
    (stands_is c.args.past.now c.args.process c.args.interval c.requires.index_is n None c.in-None.ensures)
