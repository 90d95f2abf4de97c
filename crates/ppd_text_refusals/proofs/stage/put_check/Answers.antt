use Rattle.std.proofs.Common.{rules, arith}
use Rattle.std.proofs.lemmas.Grind.{common_steps, elements}
use Rattle.ppd_text_refusals.proofs.stage.put_check.Goals as goal

pub put_fault-requires : goal.put_fault-requires
put_fault-requires c = search rules depth 1 fits 30

pub put_fault-requires-in-Arity : goal.put_fault-requires-in-Arity
put_fault-requires-in-Arity c = search rules depth 1 fits 30

pub put_fault-requires-in-BadSize : goal.put_fault-requires-in-BadSize
put_fault-requires-in-BadSize c = search rules depth 1 fits 30

pub put_fault-requires-in-TooMany : goal.put_fault-requires-in-TooMany
put_fault-requires-in-TooMany c = search rules depth 1 fits 30

pub put_fault-requires-in-Unknown : goal.put_fault-requires-in-Unknown
put_fault-requires-in-Unknown c = search rules depth 1 fits 30

pub put_fault-requires-in-VoidValue : goal.put_fault-requires-in-VoidValue
put_fault-requires-in-VoidValue c = search rules depth 1 fits 30

pub put_fault-requires-in-WrongKind : goal.put_fault-requires-in-WrongKind
put_fault-requires-in-WrongKind c = search rules depth 1 fits 30

pub returns-in-Arity : goal.returns-in-Arity
returns-in-Arity c = grind (arith, elements) steps 250000

pub returns-in-BadSize : goal.returns-in-BadSize
returns-in-BadSize c = grind (arith, elements) steps 250000

pub returns-in-Memory : goal.returns-in-Memory
returns-in-Memory c = search rules depth 1 fits 30

pub returns-in-TooMany : goal.returns-in-TooMany
returns-in-TooMany c = grind (arith, common_steps) steps 250000

pub returns-in-Twice : goal.returns-in-Twice
returns-in-Twice c = grind (arith, elements) steps 250000

pub returns-in-Unknown : goal.returns-in-Unknown
returns-in-Unknown c = search rules depth 1 fits 30
