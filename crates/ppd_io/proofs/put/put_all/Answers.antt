use Rattle.std.proofs.Common.{arith, rules}
use Rattle.ppd_io.proofs.Prefixes.{appends_more}
use Rattle.std.proofs.lemmas.List.{take_rest}
use Rattle.ppd_io.proofs.put.put_all.Goals as goal

pub loop-at-preserved : goal.loop-at-preserved
loop-at-preserved g c = record {
  within = search rules;
  bytes = appends_more _ _ _ c.loop-at.at c.in_ok-at.field-0 c.args.bytes.now c.loop-at.invariant.bytes (rw (take_rest c.args.bytes.now c.loop-at.at) at c.in_ok-at.ensures.bytes);
  later = omega (arith, c.in_ok-at.ensures.cause.later);
}
