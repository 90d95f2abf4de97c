use Rattle.std.proofs.Common.{ap, ◌/◌, ◌%◌, get_or}
use Rattle.std.specs.Prelude.{nat_eq}
use Rattle.std.proofs.lemmas.Nat.Bits.{shr_and_one}
use Rattle.ppd_sets.proofs.cell_set.is_held.Goals as goal

pub returns : goal.returns
returns c = ap (λ b. nat_eq b 1) (shr_and_one (get_or c.args.words.now (c.args.cell / 64) 0) (c.args.cell % 64))
