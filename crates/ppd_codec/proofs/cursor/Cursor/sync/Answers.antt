use Rattle.std.proofs.Common.{rules, arith}
use Rattle.std.proofs.lemmas.Grind.{elements}
use Rattle.ppd_codec.proofs.cursor.Cursor.sync.Goals as goal

pub boxed_cells-requires : goal.boxed_cells-requires
boxed_cells-requires c = search rules depth 1 fits 30

pub boxed_cells-requires-2 : goal.boxed_cells-requires-2
boxed_cells-requires-2 c = search rules depth 1 fits 30

pub branch-kind-requires : goal.branch-kind-requires
branch-kind-requires c = search rules depth 1 fits 30

pub byte-requires : goal.byte-requires
byte-requires c = search rules depth 1 fits 30

pub returns-in_err-kind : goal.returns-in_err-kind
returns-in_err-kind c = grind (arith, elements) steps 250000

pub returns-in_err-object : goal.returns-in_err-object
returns-in_err-object c = grind (arith, elements) steps 250000

pub sync_kind-requires : goal.sync_kind-requires
sync_kind-requires c = search rules depth 1 fits 30

pub sync_number-requires : goal.sync_number-requires
sync_number-requires c = search rules depth 1 fits 30

pub sync_value-requires : goal.sync_value-requires
sync_value-requires c = search rules depth 1 fits 30
