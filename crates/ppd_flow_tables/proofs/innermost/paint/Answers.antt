use Rattle.std.proofs.Common.{◌+◌, arith, inl, inr, refl}
use Rattle.ppd_flow_tables.proofs.Painted.{all_painted, more_painted, none_painted}
use Rattle.ppd_flow_tables.proofs.innermost.paint.Goals as goal

pub loop-n-init : goal.loop-n-init
loop-n-init c = record {
  painted = none_painted c.args.innermost.now c.args.first (c.args.first + 1) c.args.interval refl;
  from = omega arith;
  to = inr refl;
}

pub loop-n-preserved : goal.loop-n-preserved
loop-n-preserved c =
    let inv = c.loop-n.invariant in
    let lt = c.loop-n-test.true in
    let from = inv.from in
    record {
      painted = more_painted c.args.innermost.now c.loop-n.innermost c.set.new.self c.args.first c.loop-n.n
          c.args.interval inv.painted from c.set.ensures;
      from = omega (arith, from);
      to = inl (omega (arith, lt));
    }

pub returns-clause-long : goal.returns-clause-long
returns-clause-long c = c.loop-n.invariant.painted.long

pub returns-clause-is : goal.returns-clause-is
returns-clause-is c =
    let over = c.loop-n-test.false in
    all_painted c.args.innermost.now c.loop-n.innermost c.args.first c.loop-n.n c.args.last c.args.interval
    c.loop-n.invariant.painted c.loop-n.invariant.to (omega (arith, over))
