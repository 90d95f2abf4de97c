use Rattle.ppd_slice_search.proofs.There.{told, untold}
use Rattle.ppd_slice_search.proofs.items.has_item.Goals as goal

pub returns-in-Ok : goal.returns-in-Ok
returns-in-Ok g c =
    told c.args.past.now c.args.at c.args.steps.now c.interval_items.new.steps c.in-Ok.items c.as_slice.result.now
    c.as_slice.ensures c.in-Ok.ensures

pub returns-in-Err : goal.returns-in-Err
returns-in-Err g c =
    untold c.args.past.now c.args.at c.args.steps.now c.interval_items.new.steps c.in-Err.error c.in-Err.ensures
