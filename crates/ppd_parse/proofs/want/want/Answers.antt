use Rattle.std.proofs.Common.{◌≡◌, ◌∙◌, ap, ◌++◌, drop, reverse, arith}
use Rattle.ppd_parse.specs.Choice.{pushed}
use Rattle.ppd_parse.specs.Grammar.{wants_in}
use Rattle.ppd_parse.proofs.want.want.Goals as goal

pub returns : goal.returns
unfolding pushed
returns c =
    let none : c.loop-left.left ≡ 0 = omega arith in
    c.loop-left.invariant.items ∙ ap (λ i. c.args.wants.now.items ++ reverse (wants_in c.args.at c.args.base (drop i c.args.parts.now))) none
