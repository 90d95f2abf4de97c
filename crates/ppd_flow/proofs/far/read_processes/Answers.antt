use Rattle.std.proofs.lemmas.Grind.{common_steps}
use Rattle.std.proofs.Common.{refl, rules, arith}
use Rattle.ppd_flow.proofs.FarProcesses.{far_more, rose_then}
use Rattle.ppd_flow.proofs.far.read_processes.Goals as goal

pub loop-read-preserved : goal.loop-read-preserved
loop-read-preserved g c = record {
  is = far_more c.args.search.now c.args.place.now c.args.reads.now c.loop-read.read-index c.loop-read.processes
      c.loop-read.invariant.is _ _ c.in_ok-process.process c.push_if.new.processes c.loop-read-test.true refl
      c.in_ok-push_if.ensures c.in_ok-process.ensures.is;
  cost = rose_then c.args.search.now.past.now c.args.search.now.process c.args.steps.now c.loop-read.steps
      c.read_process.new.steps c.loop-read.invariant.cost c.in_ok-process.ensures.cost;
}

pub loop-read-init : goal.loop-read-init
loop-read-init c = search rules depth 1 fits 30

pub loop-read-smaller : goal.loop-read-smaller
loop-read-smaller c = grind (arith, common_steps) steps 250000

pub new-processes-requires : goal.new-processes-requires
new-processes-requires c = search rules depth 1 fits 30

pub push_if-requires : goal.push_if-requires
push_if-requires c = search rules depth 1 fits 30

pub read_process-requires : goal.read_process-requires
read_process-requires c = search rules depth 1 fits 30

pub returns : goal.returns
returns c = grind (arith, common_steps) steps 250000

pub returns-in_err-process : goal.returns-in_err-process
returns-in_err-process c = grind (arith, common_steps) steps 250000

pub same-processes-in-loop-read : goal.same-processes-in-loop-read
same-processes-in-loop-read c = search rules depth 1 fits 30
