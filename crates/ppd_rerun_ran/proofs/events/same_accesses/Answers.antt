use Rattle.std.proofs.Common.{rules, arith}
use Rattle.std.proofs.lemmas.Grind.{common_steps}
use Rattle.ppd_rerun_ran.proofs.events.same_accesses.Goals as goal

pub loop-index-init : goal.loop-index-init
loop-index-init c = search rules depth 1 fits 30

pub loop-index-preserved : goal.loop-index-preserved
loop-index-preserved c = grind (arith, common_steps) steps 250000

pub loop-index-smaller : goal.loop-index-smaller
loop-index-smaller c = search rules depth 1 fits 30

pub returns : goal.returns
returns c = grind (arith, common_steps) steps 250000

pub returns-then-not-same_access : goal.returns-then-not-same_access
returns-then-not-same_access c = search rules depth 1 fits 30

pub returns-then-some-others : goal.returns-then-some-others
returns-then-some-others c = search rules depth 1 fits 30

pub same_access-requires : goal.same_access-requires
same_access-requires c = search rules depth 1 fits 30
