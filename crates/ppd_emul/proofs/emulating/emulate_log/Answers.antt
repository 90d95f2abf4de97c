use Rattle.std.proofs.Common.{rules, arith}
use Rattle.std.proofs.lemmas.Grind.{common_steps, elements}
use Rattle.ppd_emul.proofs.emulating.emulate_log.Goals as goal

pub begin-requires : goal.begin-requires
begin-requires c = search rules depth 1 fits 30

pub block-requires : goal.block-requires
block-requires c = search rules depth 1 fits 30

pub block_kind-requires : goal.block_kind-requires
block_kind-requires c = search rules depth 1 fits 30

pub block_unit-unit-requires : goal.block_unit-unit-requires
block_unit-unit-requires c = grind (arith, elements) steps 250000

pub returns-in_err-state : goal.returns-in_err-state
returns-in_err-state c = grind (arith, common_steps) steps 250000
