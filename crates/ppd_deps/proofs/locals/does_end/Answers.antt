use Rattle.std.proofs.Common.{rules, arith}
use Rattle.std.proofs.lemmas.Grind.{elements}
use Rattle.ppd_deps.proofs.locals.does_end.Goals as goal

pub get-requires : goal.get-requires
get-requires c = search rules depth 1 fits 30

pub is_none-requires : goal.is_none-requires
is_none-requires c = search rules depth 1 fits 30

pub returns-else-is_none : goal.returns-else-is_none
returns-else-is_none c = grind (arith, elements) steps 250000

pub returns-in-None : goal.returns-in-None
returns-in-None c = grind (arith, elements) steps 250000

pub returns-in-None-written_scalar : goal.returns-in-None-written_scalar
returns-in-None-written_scalar c = search rules depth 1 fits 30

pub returns-then-is_none : goal.returns-then-is_none
returns-then-is_none c = grind (arith, elements) steps 250000

pub written_scalar-requires : goal.written_scalar-requires
written_scalar-requires c = search rules depth 1 fits 30
