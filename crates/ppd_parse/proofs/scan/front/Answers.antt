use Rattle.std.proofs.Common.{rules, arith}
use Rattle.std.proofs.lemmas.Grind.{elements}
use Rattle.ppd_parse.proofs.scan.front.Goals as goal

pub is_digit-requires : goal.is_digit-requires
is_digit-requires c = search rules depth 1 fits 30

pub is_letter-requires : goal.is_letter-requires
is_letter-requires c = search rules depth 1 fits 30

pub is_space-requires : goal.is_space-requires
is_space-requires c = search rules depth 1 fits 30

pub line_len-requires : goal.line_len-requires
line_len-requires c = search rules depth 1 fits 30

pub name_len-requires : goal.name_len-requires
name_len-requires c = search rules depth 1 fits 30

pub name_len-requires-then-is_digit : goal.name_len-requires-then-is_digit
name_len-requires-then-is_digit c = search rules depth 1 fits 30

pub read_block-requires : goal.read_block-requires
read_block-requires c = search rules depth 1 fits 30

pub read_mark-requires : goal.read_mark-requires
read_mark-requires c = search rules depth 1 fits 30

pub read_number-requires : goal.read_number-requires
read_number-requires c = search rules depth 1 fits 30

pub read_word-requires : goal.read_word-requires
read_word-requires c = search rules depth 1 fits 30

pub returns : goal.returns
returns c = search rules depth 1 fits 30

pub returns-in_default : goal.returns-in_default
returns-in_default c = search rules depth 1 fits 30

pub returns-then-is_digit : goal.returns-then-is_digit
returns-then-is_digit c = search rules depth 1 fits 30

pub returns-then-is_letter : goal.returns-then-is_letter
returns-then-is_letter c = search rules depth 1 fits 30

pub returns-then-is_space : goal.returns-then-is_space
returns-then-is_space c = search rules depth 1 fits 30

pub returns-then-starts_with : goal.returns-then-starts_with
returns-then-starts_with c = search rules depth 1 fits 30

pub returns-then-starts_with-2 : goal.returns-then-starts_with-2
returns-then-starts_with-2 c = grind (arith, elements) steps 250000
