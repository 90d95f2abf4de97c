use Rattle.ppd_graph.specs.Cycles.{cycle_of, first_or}
use Rattle.ppd_graph.proofs.RoundsWalked.{runs_more}
use Rattle.ppd_graph.proofs.rounds.nodes_of.Goals as goal
use Rattle.std.proofs.Common.{rules, arith}
use Rattle.std.proofs.lemmas.Grind.{common_steps}

pub loop-index-preserved : goal.loop-index-preserved
loop-index-preserved c =
    let round = c.args.round.now in
    runs_more c.args.pairs.now c.args.times.now (first_or round 0) c.loop-index.index c.next_in-next.result round c.loop-index.nodes c.push_run.new.nodes (cycle_of c.args.pairs.now c.args.times.now round) c.loop-index-test.true
    c.next_in-next.ensures c.in_ok-push_run.ensures c.loop-index.invariant

pub branch-push_run-requires : goal.branch-push_run-requires
branch-push_run-requires c = search rules depth 1 fits 30

pub drop-nodes-inside-requires : goal.drop-nodes-inside-requires
drop-nodes-inside-requires c = search rules depth 1 fits 30

pub from_residual-requires : goal.from_residual-requires
from_residual-requires c = search rules depth 1 fits 30

pub loop-index-init : goal.loop-index-init
loop-index-init c = search rules depth 1 fits 30

pub loop-index-smaller : goal.loop-index-smaller
loop-index-smaller c = search rules depth 1 fits 30

pub new-nodes-requires : goal.new-nodes-requires
new-nodes-requires c = search rules depth 1 fits 30

pub next_in-next-requires : goal.next_in-next-requires
next_in-next-requires c = search rules depth 1 fits 30

pub push_run-requires : goal.push_run-requires
push_run-requires c = search rules depth 1 fits 30

pub returns : goal.returns
returns c = grind (arith, common_steps) steps 250000

pub returns-in_err-push_run : goal.returns-in_err-push_run
returns-in_err-push_run c = search rules depth 1 fits 30
