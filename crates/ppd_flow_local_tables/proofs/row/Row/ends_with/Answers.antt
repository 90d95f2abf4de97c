use Rattle.std.proofs.Common.{◌≡◌, suc, ◌-◌, length, arith}
use Rattle.ppd_flow_local_tables.proofs.RowLemmas.{ends_at}
use Rattle.ppd_flow_local_tables.proofs.row.Row.ends_with.Goals as goal

pub returns : goal.returns
returns g c =
    let long : length c.self.inside.items.items ≡ suc (c.len-count.result - 1) = grind (arith, c.len-count.ensures) in
    ends_at _ _ _ c.self.invariant.0 c.self.view_is c.args.item _ _ long c.index.ensures
