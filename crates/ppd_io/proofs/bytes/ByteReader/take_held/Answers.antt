use Rattle.std.proofs.Common.{rules, arith}
use Rattle.std.proofs.lemmas.Grind.{common_steps}
use Rattle.ppd_io.proofs.bytes.ByteReader.take_held.Goals as goal

pub index-byte-requires : goal.index-byte-requires
index-byte-requires c = search rules depth 1 fits 30

pub returns-clause-few : goal.returns-clause-few
returns-clause-few c = grind (arith, common_steps) steps 250000
