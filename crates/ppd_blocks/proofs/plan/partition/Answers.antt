use Rattle.std.proofs.Common.{◌∙◌}
use Rattle.ppd_blocks.proofs.Validity.{same_blocks}
use Rattle.ppd_blocks.proofs.plan.partition.Goals as goal

pub plan_with-requires-clause-blocks : goal.plan_with-requires-clause-blocks
plan_with-requires-clause-blocks c = c.as_slice.ensures ∙ same_blocks c.args.program.now c.args.policy.now c.requires.program c.in_ok-bare.bare c.in_ok-bare.ensures.bare
