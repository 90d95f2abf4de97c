use Rattle.std.proofs.Common.{◌≤◌, ◌+◌, ◌<◌, arith, length}
use Rattle.ppd_trace.proofs.Leading.{kept_on}
use Rattle.ppd_trace.proofs.pairs.add_process.Goals as goal

pub loop-taken-preserved : goal.loop-taken-preserved
loop-taken-preserved g c =
    let i = c.loop-taken.taken-index in
    let steps = c.args.own.now in
    let inside : i < length steps = omega arith in
    let few : c.number_after-number.result ≤ i + 1 = search (arith) in
    record {
      kept = λ o k.
          kept_on c.args.program.now c.args.kind c.loop-taken.leads c.keep_first.new.leads c.args.process c.loop-taken.number c.number_after-number.result i steps _ c.target_of-target.result inside
          c.target_of-target.ensures c.number_after-number.ensures c.in_ok-keep_first.ensures.kept _ o k (c.loop-taken.invariant.kept o k);
      few = few;
      spent = omega (arith, c.loop-taken.invariant.spent, c.tick.ensures, c.in_ok-keep_first.ensures.cost);
    }
