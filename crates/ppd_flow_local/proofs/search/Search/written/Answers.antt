use Rattle.std.proofs.lemmas.Result.{err_from_is_err_and}
use Rattle.ppd_flow_local.proofs.Joined.{either_failed, else_either, some_either}
use Rattle.ppd_flow_local.proofs.search.Search.written.Goals as goal

pub returns-in-None : goal.returns-in-None
returns-in-None g c =
    else_either c.args.self.now _ _ c.args.steps.now c.in_loops.new.steps c.writer_at.new.steps c.writer_at.result
    (rw c.in-None.is at c.in_ok-in_loops.ensures) c.writer_at.ensures

pub returns-in-Some : goal.returns-in-Some
returns-in-Some g c =
    some_either c.args.self.now _ _ c.in-Some.origin c.args.steps.now c.in_loops.new.steps (rw c.in-Some.is at c.in_ok-in_loops.ensures)

pub returns-in_err-in_loops : goal.returns-in_err-in_loops
returns-in_err-in_loops g c =
    let e = err_from_is_err_and c.from_residual.result c.from_residual.ensures.1 in
    rw (e.1, e.2) (either_failed c.args.self.now _ _ c.args.steps.now c.in_loops.new.steps c.in_err-in_loops.field-0.0
    c.in_err-in_loops.ensures)
