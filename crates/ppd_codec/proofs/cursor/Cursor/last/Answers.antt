use Rattle.std.proofs.Common.{rules, arith}
use Rattle.std.proofs.lemmas.Grind.{common_steps}
use Rattle.ppd_codec.proofs.cursor.Cursor.last.Goals as goal

pub branch-lists-requires : goal.branch-lists-requires
branch-lists-requires c = search rules depth 1 fits 30

pub is_empty-requires : goal.is_empty-requires
is_empty-requires c = search rules depth 1 fits 30

pub logs-requires : goal.logs-requires
logs-requires c = search rules depth 1 fits 30

pub offset-requires : goal.offset-requires
offset-requires c = search rules depth 1 fits 30

pub returns : goal.returns
returns c = grind (arith, common_steps) steps 250000

pub returns-in_err-lists : goal.returns-in_err-lists
returns-in_err-lists c = grind (arith, common_steps) steps 250000

pub returns-then-is_empty : goal.returns-then-is_empty
returns-then-is_empty c = grind (arith, common_steps) steps 250000
