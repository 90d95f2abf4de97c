use Rattle.std.proofs.Common.{get_or}
use Rattle.std.proofs.lemmas.Option.{slice_get-get_or}
use Rattle.ppd_flow.proofs.ItemEdges.{an_item_given, no_item_given}
use Rattle.ppd_flow.proofs.item.edges_given.Goals as goal

pub returns-then-at-given : goal.returns-then-at-given
returns-then-at-given g c =
    no_item_given c.args.past.now c.args.at.process c.args.at.interval c.args.at.item c.args.steps.now
    c.args.steps.now c.args.given.items.now c.requires.items c.if-at-given.true

pub returns : goal.returns
returns g c =
    let items = c.args.given.items.now in
    let item = c.args.at.item in
    an_item_given c.args.past.now c.args.at.process c.args.at.interval item c.args.steps.now c.args.steps.now items
    c.requires.items (get_or items item c.index-given-at.result) c.item_edges.new.steps c.item_edges.result
    (slice_get-get_or items item c.index-given-at.result c.if-at-given.false) c.item_edges.ensures
