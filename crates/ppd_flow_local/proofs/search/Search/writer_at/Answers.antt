use Rattle.std.proofs.lemmas.Result.{err_from_is_err_and}
use Rattle.ppd_flow_local.proofs.Rounds.{function_fails, function_written}
use Rattle.ppd_flow_local.proofs.search.Search.writer_at.Goals as goal

pub returns-in_ok-last_item-in-Of : goal.returns-in_ok-last_item-in-Of
returns-in_ok-last_item-in-Of g c =
    function_written c.args.self.now c.args.interval _ c.args.steps.now c.last_item.new.steps c.args.writer _ c.in-Of.is c.in_ok-last_item-in-Of.ensures

pub returns-in_err-last_item-in-Of : goal.returns-in_err-last_item-in-Of
returns-in_err-last_item-in-Of g c =
    let e = err_from_is_err_and c.from_residual.result c.from_residual.ensures.1 in
    rw (e.1, e.2) (function_fails c.args.self.now c.args.interval _ c.args.steps.now c.last_item.new.steps c.args.writer c.in_err-last_item-in-Of.field-0.0
    c.in-Of.is c.in_err-last_item-in-Of.ensures)
