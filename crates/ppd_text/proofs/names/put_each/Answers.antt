use Rattle.std.specs.Prelude.{◌++◌, codes}
use Rattle.ppd_text.specs.Names.{at_number}
use Rattle.ppd_text.proofs.Joined.{taken_joined}
use Rattle.ppd_text.proofs.names.put_each.Goals as goal
use Rattle.std.proofs.Common.{rules, arith}
use Rattle.std.proofs.lemmas.Grind.{common_steps}

pub loop-number-preserved : goal.loop-number-preserved
loop-number-preserved c =
    taken_joined (λ w. codes " " ++ at_number (λ x. x.name) c.args.vars.now w) c.args.numbers.now c.loop-number.number-index 0 c.args.text.now.items c.loop-number.text.items c.put_name.new.text.items c.loop-number-test.true c.loop-number.invariant c.in_ok-put_name.ensures

pub branch-put_name-requires : goal.branch-put_name-requires
branch-put_name-requires c = search rules depth 1 fits 30

pub from_residual-requires : goal.from_residual-requires
from_residual-requires c = search rules depth 1 fits 30

pub loop-number-init : goal.loop-number-init
loop-number-init c = search rules depth 1 fits 30

pub loop-number-smaller : goal.loop-number-smaller
loop-number-smaller c = search rules depth 1 fits 30

pub put_name-requires : goal.put_name-requires
put_name-requires c = search rules depth 1 fits 30

pub returns-in_err-put_name : goal.returns-in_err-put_name
returns-in_err-put_name c = grind (arith, common_steps) steps 250000
