use Rattle.std.proofs.Common.{arith}
use Rattle.ppd_graph.proofs.Kept.{kept_first, kept_more, kept_whole, twice_first, twice_here, twice_none}
use Rattle.ppd_graph.proofs.by_number.keep_all.Goals as goal

pub loop-one-init : goal.loop-one-init
loop-one-init g c = record {
  kept = kept_first c.args.program.now c.new-numbers.result c.args.placed.now c.new-numbers.ensures;
  twice = twice_first c.args.program.now c.new-numbers.result c.args.placed.now c.new-numbers.ensures;
  spent = omega arith;
}

pub loop-one-preserved : goal.loop-one-preserved
loop-one-preserved g c =
    let now = kept_more c.args.program.now c.loop-one.numbers c.keep.new.self c.loop-one.one-index c.args.placed.now _ _ c.is_twice.result c.loop-one-test.true c.is_twice.ensures c.if-is_twice.false c.in_ok-keep.ensures
    c.loop-one.invariant.kept c.loop-one.invariant.twice in
    record { kept = now.0; twice = now.1; spent = omega (arith, c.tick.ensures, c.loop-one.invariant.spent) }

pub returns-clause-kept : goal.returns-clause-kept
returns-clause-kept g c = kept_whole c.args.program.now c.loop-one.numbers c.loop-one.one-index c.args.placed.now c.loop-one-test.false c.loop-one.invariant.kept

pub returns-clause-once : goal.returns-clause-once
returns-clause-once g c = twice_none c.args.program.now c.loop-one.numbers c.loop-one.one-index c.args.placed.now _ c.loop-one-test.false c.loop-one.invariant.twice

pub returns-then-is_twice-clause-twice : goal.returns-then-is_twice-clause-twice
returns-then-is_twice-clause-twice g c = twice_here c.args.program.now c.loop-one.numbers c.loop-one.one-index c.args.placed.now _ _ c.is_twice.result c.loop-one-test.true c.is_twice.ensures c.if-is_twice.true c.loop-one.invariant.twice
