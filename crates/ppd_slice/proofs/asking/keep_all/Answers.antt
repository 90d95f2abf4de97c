use Rattle.std.proofs.Common.{get_or, refl}
use Rattle.ppd_slice.proofs.Keeping.{all_next, all_whole, only_next, still_more}
use Rattle.ppd_slice.proofs.Kept.{kept_none, rose_none, rose_then}
use Rattle.ppd_slice.proofs.asking.keep_all.Goals as goal

pub loop-process-init : goal.loop-process-init
loop-process-init g c = record {
  kept = c.requires.kept;
  still = λ p was. was;
  all = tt;
  only = kept_none c.args.processes.now c.args.kept.now.replays;
  cost = rose_none c.args.past.now c.args.kept.now.replays c.args.steps.now c.args.steps.now refl;
}

pub returns-in_err-keep-clause-only : goal.returns-in_err-keep-clause-only
returns-in_err-keep-clause-only g c =
    only_next c.args.past.now c.args.processes.now c.loop-process.process-index c.args.kept.now.replays c.loop-process.kept.replays
    c.keep.new.kept.replays c.loop-process-test.true c.loop-process.invariant.only c.keep.ensures.others

pub loop-process-preserved : goal.loop-process-preserved
loop-process-preserved g c = record {
  kept = c.keep.ensures.kept;
  still = still_more c.args.past.now (get_or c.args.processes.now c.loop-process.process-index 0) c.args.kept.now.replays
      c.loop-process.kept.replays c.keep.new.kept.replays c.loop-process.invariant.still c.keep.ensures.others c.in_ok-keep.ensures.all;
  all = all_next c.args.past.now c.args.processes.now c.loop-process.process-index c.loop-process.kept.replays c.keep.new.kept.replays
      c.loop-process-test.true c.loop-process.invariant.all c.keep.ensures.others c.in_ok-keep.ensures.all;
  only = only_next c.args.past.now c.args.processes.now c.loop-process.process-index c.args.kept.now.replays
      c.loop-process.kept.replays c.keep.new.kept.replays c.loop-process-test.true c.loop-process.invariant.only c.keep.ensures.others;
  cost = rose_then c.args.past.now c.args.kept.now.replays c.loop-process.kept.replays c.keep.new.kept.replays c.args.steps.now
      c.loop-process.steps c.keep.new.steps c.loop-process.invariant.cost c.in_ok-keep.ensures.cost;
}

pub returns-clause-all : goal.returns-clause-all
returns-clause-all g c =
    all_whole c.args.past.now c.args.processes.now c.loop-process.process-index c.loop-process.kept.replays
    c.loop-process-test.false c.loop-process.invariant.all
