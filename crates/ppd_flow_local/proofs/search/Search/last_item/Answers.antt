use Rattle.std.proofs.Common.{◌≡◌, List, ap, length, subst}
use Rattle.std.specs.Prelude.{◌-◌}
use Rattle.ppd_graph.specs.Looked.{known}
use Rattle.ppd_model.specs.declared.flow.Item.{Item}
use Rattle.ppd_model.specs.declared.flow.Origin.TheVariants as origin
use Rattle.ppd_flow_local.specs.Searches.{IsFound}
use Rattle.ppd_flow_local.proofs.Rounds.{last_from}
use Rattle.ppd_flow_local.proofs.search.Search.last_item.Goals as goal

pub returns : goal.returns
returns g c =
    let count : length c.as_slice.result.now ≡ length c.in_ok-items.items = ap (λ (xs : List Item). length xs) c.as_slice.ensures in
    last_from c.args.self.now c.args.interval c.args.steps.now c.items.new.steps c.in_ok-items.items c.item_before.result c.in_ok-items.ensures
    (subst (λ n. IsFound c.args.self.now (known (origin.Item c.args.self.now.process c.args.interval (n - 1))) c.items.new.steps c.items.new.steps c.item_before.result)
    count (c.item_before.ensures c.items.new.steps))
