use Rattle.std.proofs.Common.{rules, arith}
use Rattle.std.proofs.lemmas.Grind.{common_steps}
use Rattle.ppd_clean.proofs.syncs.count_syncs.Goals as goal

pub is_sync-requires : goal.is_sync-requires
is_sync-requires c = search rules depth 1 fits 30

pub loop-entry-init : goal.loop-entry-init
loop-entry-init c = search rules depth 1 fits 30

pub loop-entry-preserved : goal.loop-entry-preserved
loop-entry-preserved c = grind (arith, common_steps) steps 250000

pub loop-entry-smaller : goal.loop-entry-smaller
loop-entry-smaller c = search rules depth 1 fits 30

pub returns : goal.returns
returns c = grind (arith, common_steps) steps 250000
