use Rattle.std.proofs.Common.{◌∙◌, ap}
use Rattle.ppd_flow_local_tables.proofs.table.LocalTable.leaf_at.Goals as goal

pub returns : goal.returns
returns c = λ program plan items h l. ap (λ o. o.leaf) c.point_at.ensures ∙ h.leaf c.args.place l
