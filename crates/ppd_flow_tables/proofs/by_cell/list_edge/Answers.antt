use Rattle.std.proofs.Common.{◌++◌, ◌∙◌, [], ap, get_or}
use Rattle.ppd_race_found.specs.Lists.{one_at}
use Rattle.ppd_flow_tables.proofs.Growing.{with_one}
use Rattle.ppd_flow_tables.proofs.by_cell.list_edge.Goals as goal

pub returns : goal.returns
returns c = λ k.
    ap (λ l. get_or l k []) c.in_ok-push_in.ensures
    ∙ with_one c.make_room.new.lists.items c.args.cell c.args.edge k c.in_ok-make_room.ensures.there
    ∙ ap (λ r. r ++ one_at c.args.cell c.args.edge k) (c.in_ok-make_room.ensures.same k)
