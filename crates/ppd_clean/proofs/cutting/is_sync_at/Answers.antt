use Rattle.std.proofs.Common.{rules, arith}
use Rattle.std.proofs.lemmas.Grind.{elements}
use Rattle.ppd_clean.proofs.cutting.is_sync_at.Goals as goal

pub get-requires : goal.get-requires
get-requires c = search rules depth 1 fits 30

pub returns-in-Some-Sync : goal.returns-in-Some-Sync
returns-in-Some-Sync c = grind (arith, elements) steps 250000

pub returns-in_default : goal.returns-in_default
returns-in_default c = grind (arith, elements) steps 250000

pub returns-in_default-2 : goal.returns-in_default-2
returns-in_default-2 c = grind (arith, elements) steps 250000
