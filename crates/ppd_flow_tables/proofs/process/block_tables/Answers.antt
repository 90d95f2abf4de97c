use Rattle.std.proofs.lemmas.Grind.{common_steps}
use Rattle.std.proofs.Common.{◌∷◌, [], ◌+◌, ◌∙◌, ap, length, length-append, subst, sym, rules, arith}
use Rattle.ppd_flow_tables.specs.Tabled.{AreOfFirst, IsOfInterval}
use Rattle.ppd_flow_tables.proofs.Tabled.{first_more}
use Rattle.ppd_flow_tables.proofs.process.block_tables.Goals as goal

pub loop-i-preserved : goal.loop-i-preserved
loop-i-preserved c = record {
  all = subst (AreOfFirst c.args.past.now c.args.process) (sym c.in_ok-push.ensures.ok)
      (first_more c.args.past.now c.args.process c.loop-i.i c.loop-i.blocks c.in_ok-tables.tables
      c.loop-i.invariant.count c.loop-i.invariant.all
      (subst (λ k. IsOfInterval c.args.past.now c.args.process k c.in_ok-tables.tables) c.in_ok-interval.ensures.ok
      c.in_ok-tables.ensures));
  count = ap length c.in_ok-push.ensures.ok ∙ length-append c.loop-i.blocks (c.in_ok-tables.tables ∷ [])
      ∙ ap (λ n. n + 1) c.loop-i.invariant.count;
}

pub as_slice-requires : goal.as_slice-requires
as_slice-requires c = search rules depth 1 fits 30

pub branch-interval-requires : goal.branch-interval-requires
branch-interval-requires c = search rules depth 1 fits 30

pub from_residual-requires : goal.from_residual-requires
from_residual-requires c = search rules depth 1 fits 30

pub loop-i-init : goal.loop-i-init
loop-i-init c = search rules depth 1 fits 30

pub loop-i-smaller : goal.loop-i-smaller
loop-i-smaller c = search rules depth 1 fits 30

pub new-blocks-requires : goal.new-blocks-requires
new-blocks-requires c = search rules depth 1 fits 30

pub new-requires-clause-edges : goal.new-requires-clause-edges
new-requires-clause-edges c = search rules depth 1 fits 30

pub new-requires-clause-past : goal.new-requires-clause-past
new-requires-clause-past c = search rules depth 1 fits 30

pub number-requires : goal.number-requires
number-requires c = search rules depth 1 fits 30

pub push-requires : goal.push-requires
push-requires c = search rules depth 1 fits 30

pub returns : goal.returns
returns c = search rules depth 1 fits 30

pub returns-in_err-interval : goal.returns-in_err-interval
returns-in_err-interval c = search rules depth 1 fits 30

pub returns-in_err-push : goal.returns-in_err-push
returns-in_err-push c = grind (arith, common_steps) steps 250000

pub returns-in_err-tables : goal.returns-in_err-tables
returns-in_err-tables c = grind (arith, common_steps) steps 250000

pub same-blocks-in-loop-i : goal.same-blocks-in-loop-i
same-blocks-in-loop-i c = search rules depth 1 fits 30
