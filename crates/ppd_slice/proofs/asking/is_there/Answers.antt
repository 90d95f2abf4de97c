use Rattle.ppd_slice.proofs.Keeping.{items_fail, items_free, past_known, there_known}
use Rattle.ppd_slice.proofs.asking.is_there.Goals as goal

pub has_item-requires : goal.has_item-requires
has_item-requires g c =
    past_known c.args.past.now c.with_kept-known.result c.as_slice.result c.args.kept.now.replays c.as_slice.ensures
    c.with_kept-known.ensures c.requires.past c.requires.kept.replays

pub returns-in-Ok-clause-is : goal.returns-in-Ok-clause-is
returns-in-Ok-clause-is g c =
    there_known c.args.past.now c.with_kept-known.result c.as_slice.result c.args.kept.now.replays c.as_slice.ensures
    c.with_kept-known.ensures c.args.at c.args.steps.now c.has_item.new.steps c.in-Ok.there c.in-Ok.ensures

pub returns-in-Ok-clause-cost : goal.returns-in-Ok-clause-cost
returns-in-Ok-clause-cost g c all =
    items_free c.args.past.now c.with_kept-known.result c.as_slice.result c.args.kept.now.replays c.as_slice.ensures
    c.with_kept-known.ensures c.args.at c.args.steps.now c.has_item.new.steps c.in-Ok.there c.in-Ok.ensures all

pub returns-in-Err-clause-error : goal.returns-in-Err-clause-error
returns-in-Err-clause-error g c =
    items_fail c.args.past.now c.with_kept-known.result c.as_slice.result c.args.kept.now.replays c.as_slice.ensures
    c.with_kept-known.ensures c.args.at c.args.steps.now c.has_item.new.steps c.in-Err.error c.in-Err.ensures
