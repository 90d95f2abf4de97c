use Rattle.std.proofs.Common.{◌<◌, ◌≤◌, ◌∙◌, arith, subst, ℕ}
use Rattle.ppd_flow_tables.proofs.Latest.{found_all, found_more}
use Rattle.ppd_flow_tables.proofs.by_cell.WritingEdges.greatest_before.Goals as goal

pub loop-process-preserved : goal.loop-process-preserved
loop-process-preserved g c =
    let process : ℕ = c.loop-process.process in
    record {
      is = found_more c.args.past.now c.args.edge c.args.cell process c.loop-process.best c.later-best.result c.last_of-last.result (subst (λ n. process < n) (c.len-process-end.ensures ∙ c.requires.edges.long) c.loop-process-test.true) c.later-best.ensures.is c.last_of-last.ensures.last
          c.loop-process.invariant.is;
      there = c.later-best.ensures.there;
      spent = omega (arith, c.tick.ensures, c.last_of-last.ensures.cost, c.loop-process.invariant.spent);
    }

pub returns-clause-is : goal.returns-clause-is
returns-clause-is g c =
    found_all c.args.past.now c.args.edge c.args.cell c.requires.past c.loop-process.process c.loop-process.best (subst (λ n. n ≤ c.loop-process.process) (c.len-process-end.ensures ∙ c.requires.edges.long) c.loop-process-test.false) c.loop-process.invariant.is

pub returns-clause-cost : goal.returns-clause-cost
returns-clause-cost g c = let long = c.requires.edges.long in let count = c.len-process-end.ensures in let most = c.loop-process.auto.process-end in omega (arith, long, count, most, c.loop-process.invariant.spent)
