use Rattle.std.proofs.Common.{rules, arith}
use Rattle.std.proofs.lemmas.Grind.{common_steps}
use Rattle.ppd_parse.proofs.reading.step.Goals as goal

pub count_with-count-requires : goal.count_with-count-requires
count_with-count-requires g c = search rules depth 1 fits 30

pub returns-else-count-gt-MOST_SOURCE_OPERATORS : goal.returns-else-count-gt-MOST_SOURCE_OPERATORS
returns-else-count-gt-MOST_SOURCE_OPERATORS g c = grind (arith, common_steps) steps 250000

pub returns-in-Err : goal.returns-in-Err
returns-in-Err g c = search rules depth 1 fits 30

pub returns-in-Ok-None : goal.returns-in-Ok-None
returns-in-Ok-None g c = search rules depth 1 fits 30

pub returns-then-at-gt-MOST_OPEN-clause-held : goal.returns-then-at-gt-MOST_OPEN-clause-held
returns-then-at-gt-MOST_OPEN-clause-held g c = search rules depth 1 fits 30

pub returns-then-count-gt-MOST_SOURCE_OPERATORS : goal.returns-then-count-gt-MOST_SOURCE_OPERATORS
returns-then-count-gt-MOST_SOURCE_OPERATORS g c = grind (arith, common_steps) steps 250000

pub take-requires : goal.take-requires
take-requires g c = search rules depth 1 fits 30
