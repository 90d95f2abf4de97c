use Rattle.std.proofs.Common.{rules}
use Rattle.ppd_codec.proofs.cursor.Cursor.take.Goals as goal

pub returns-in-None : goal.returns-in-None
returns-in-None g c = search rules depth 1 fits 30

pub returns-in-Some : goal.returns-in-Some
returns-in-Some g c = search rules depth 1 fits 30

pub split_first_chunk-requires : goal.split_first_chunk-requires
split_first_chunk-requires g c = search rules depth 1 fits 30

pub tick-requires : goal.tick-requires
tick-requires g c = search rules depth 1 fits 30
