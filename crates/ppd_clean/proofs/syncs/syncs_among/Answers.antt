use Rattle.std.proofs.Common.{◌∙◌}
use Rattle.ppd_flow_past.proofs.Edges.Counted.{count_is}
use Rattle.ppd_clean.proofs.syncs.syncs_among.Goals as goal

pub returns : goal.returns
returns c = c.count_syncs.ensures ∙ count_is c.args.entries.now
