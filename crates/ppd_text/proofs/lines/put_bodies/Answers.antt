use Rattle.ppd_text.specs.Table.{body_at}
use Rattle.ppd_text.proofs.Joined.{first_joined}
use Rattle.ppd_text.proofs.lines.put_bodies.Goals as goal
use Rattle.std.proofs.Common.{rules, arith}
use Rattle.std.proofs.lemmas.Grind.{common_steps}

pub loop-number-preserved : goal.loop-number-preserved
loop-number-preserved c =
    first_joined (body_at c.args.program.now) c.loop-number.number c.args.text.now.items c.loop-number.text.items c.put_body_at.new.text.items c.loop-number.invariant c.in_ok-put_body_at.ensures

pub branch-put_body_at-requires : goal.branch-put_body_at-requires
branch-put_body_at-requires c = search rules depth 1 fits 30

pub from_residual-requires : goal.from_residual-requires
from_residual-requires c = search rules depth 1 fits 30

pub len-number-end-requires : goal.len-number-end-requires
len-number-end-requires c = search rules depth 1 fits 30

pub loop-number-init : goal.loop-number-init
loop-number-init c = search rules depth 1 fits 30

pub loop-number-smaller : goal.loop-number-smaller
loop-number-smaller c = search rules depth 1 fits 30

pub put_body_at-requires : goal.put_body_at-requires
put_body_at-requires c = search rules depth 1 fits 30

pub returns-in_err-put_body_at : goal.returns-in_err-put_body_at
returns-in_err-put_body_at c = grind (arith, common_steps) steps 250000
