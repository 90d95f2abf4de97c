use Rattle.std.proofs.Common.{rules, arith}
use Rattle.std.proofs.lemmas.Grind.{common_steps}
use Rattle.ppd_io.proofs.steady.SteadySource.give.Goals as goal

pub copy_from_slice-requires : goal.copy_from_slice-requires
copy_from_slice-requires c = search rules depth 1 fits 30

pub deref-requires : goal.deref-requires
deref-requires c = search rules depth 1 fits 30

pub len-requires : goal.len-requires
len-requires c = search rules depth 1 fits 30

pub min-count-requires : goal.min-count-requires
min-count-requires c = search rules depth 1 fits 30

pub min-requires : goal.min-requires
min-requires c = search rules depth 1 fits 30

pub returns : goal.returns
returns c = grind (arith, common_steps) steps 250000
