use Rattle.std.proofs.Common.{rules, arith}
use Rattle.std.proofs.lemmas.Grind.{elements}
use Rattle.ppd_deps.proofs.locals.is_kept.Goals as goal

pub as_slice-requires : goal.as_slice-requires
as_slice-requires c = search rules depth 1 fits 30

pub does_end-requires : goal.does_end-requires
does_end-requires c = search rules depth 1 fits 30

pub locals-requires : goal.locals-requires
locals-requires c = search rules depth 1 fits 30

pub returns-else-found-local : goal.returns-else-found-local
returns-else-found-local c = grind (arith, elements) steps 250000

pub returns-then-found-local : goal.returns-then-found-local
returns-then-found-local c = grind (arith, elements) steps 250000
