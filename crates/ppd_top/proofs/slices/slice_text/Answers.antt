use Rattle.ppd_top.proofs.Replied.{item_err, item_none, item_ok}
use Rattle.ppd_top.proofs.slices.slice_text.Goals as goal

pub returns-in-Ok : goal.returns-in-Ok
returns-in-Ok c = item_ok c.args.past.now c.requires.uncut c.args.process c.args.interval c.args.item c.in-Ok.found c.as_slice.result.now c.in-Ok.ensures c.as_slice.ensures c.lines_of.result c.lines_of.ensures.text c.lines_of.ensures.error

pub returns-in-Err-NoEvent : goal.returns-in-Err-NoEvent
returns-in-Err-NoEvent c =
    item_none c.args.past.now c.requires.uncut c.args.process c.args.interval c.args.item c.requires.past.index_is c.requires.there c.in-Err-NoEvent.field-0 c.in-Err-NoEvent.field-0-is c.in-Err-NoEvent.ensures c.line_of.result c.line_of.ensures.text c.line_of.ensures.error

pub returns-in-Err : goal.returns-in-Err
returns-in-Err c = item_err c.args.past.now c.requires.uncut c.args.process c.args.interval c.args.item c.in-Err.error c.in-Err.ensures c.no_items.result c.no_items.ensures
