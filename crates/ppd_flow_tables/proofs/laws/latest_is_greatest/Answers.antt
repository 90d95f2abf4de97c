use Rattle.ppd_flow_tables.proofs.LatestEdges.{latest_is}
use Rattle.ppd_flow_tables.proofs.laws.latest_is_greatest.Goals as goal

pub returns : goal.returns
returns c = latest_is
