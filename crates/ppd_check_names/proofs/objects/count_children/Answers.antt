use Rattle.ppd_check_names.proofs.Table.Listing.{count_below}
use Rattle.ppd_check_names.proofs.objects.count_children.Goals as goal

pub returns-in-Ok : goal.returns-in-Ok
returns-in-Ok c =
    count_below c.args.source.nodes.now c.args.id c.children_of.result.now c.in-Ok.count c.in-Ok.ensures.1 c.children_of.ensures.children
