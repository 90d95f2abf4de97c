use Rattle.std.proofs.Common.{◌≡◌, ◌+◌, ◌<◌, ap, arith}
use Rattle.std.specs.List.{range_with_len, sum_by}
use Rattle.ppd_graph.specs.ByNumber.{numbered_kept}
use Rattle.ppd_graph.specs.Refusals.{object_count, object_misses}
use Rattle.ppd_graph.specs.Spending.{object_cost}
use Rattle.ppd_graph.proofs.Counted.{sum_more, sum_within}
use Rattle.ppd_graph.proofs.Searched.{missing_here, missing_more, none_so}
use Rattle.ppd_graph.proofs.missing.Numbers.missing_among.Goals as goal

pub returns-then-is_some-clause-value : goal.returns-then-is_some-clause-value
returns-then-is_some-clause-value g c =
    let end : c.count_of-count.result ≡ object_count c.args.objects c.args.self.now.program.now = c.count_of-count.ensures in
    let inside : c.loop-object.object < object_count c.args.objects c.args.self.now.program.now = omega arith in
    missing_here (object_misses c.args.objects c.args.self.now.program.now (numbered_kept c.args.self.now.nodes.now c.args.self.now.greatest.now)) c.loop-object.object (object_count c.args.objects c.args.self.now.program.now) c.missing_of-missing.result _ c.is_some.result inside
    c.missing_of-missing.ensures.value c.is_some.ensures c.if-is_some.true c.loop-object.invariant.holds

pub loop-object-preserved : goal.loop-object-preserved
loop-object-preserved g c =
    let end : c.count_of-count.result ≡ object_count c.args.objects c.args.self.now.program.now = c.count_of-count.ensures in
    let inside : c.loop-object.object < object_count c.args.objects c.args.self.now.program.now = omega arith in
    let more = sum_more (object_cost c.args.objects c.args.self.now.program.now c.args.self.now.greatest.now) c.loop-object.object in
    let taken = none_so c.missing_of-missing.result c.is_some.result c.is_some.ensures c.if-is_some.false c.missing_of-missing.ensures.taken in
    record {
      holds = missing_more (object_misses c.args.objects c.args.self.now.program.now (numbered_kept c.args.self.now.nodes.now c.args.self.now.greatest.now)) c.loop-object.object (object_count c.args.objects c.args.self.now.program.now) c.missing_of-missing.result _ c.is_some.result inside
          c.missing_of-missing.ensures.value c.is_some.ensures c.if-is_some.false c.loop-object.invariant.holds;
      spent = omega (arith, more, c.tick.ensures, taken, c.loop-object.invariant.spent);
    }

pub returns-then-is_some-clause-cost : goal.returns-then-is_some-clause-cost
returns-then-is_some-clause-cost g c =
    let end : c.count_of-count.result ≡ object_count c.args.objects c.args.self.now.program.now = c.count_of-count.ensures in
    let inside : c.loop-object.object < object_count c.args.objects c.args.self.now.program.now = omega arith in
    let more = sum_more (object_cost c.args.objects c.args.self.now.program.now c.args.self.now.greatest.now) c.loop-object.object in
    let within = sum_within (object_cost c.args.objects c.args.self.now.program.now c.args.self.now.greatest.now) (c.loop-object.object + 1) (object_count c.args.objects c.args.self.now.program.now) (omega (arith, inside)) in
    omega (arith, more, within, c.tick.ensures, c.missing_of-missing.ensures.cost, c.loop-object.invariant.spent)

pub returns-clause-cost : goal.returns-clause-cost
returns-clause-cost g c =
    let end : c.count_of-count.result ≡ object_count c.args.objects c.args.self.now.program.now = c.count_of-count.ensures in
    let within = sum_within (object_cost c.args.objects c.args.self.now.program.now c.args.self.now.greatest.now) c.loop-object.object (object_count c.args.objects c.args.self.now.program.now) (omega arith) in
    omega (arith, within, c.loop-object.invariant.spent)

pub returns-clause-taken : goal.returns-clause-taken
returns-clause-taken g c =
    let end : c.count_of-count.result ≡ object_count c.args.objects c.args.self.now.program.now = c.count_of-count.ensures in
    let last : c.loop-object.object ≡ object_count c.args.objects c.args.self.now.program.now = omega (arith, end, c.loop-object-test.false, c.loop-object.auto.object-end) in
    let all = ap (λ n. sum_by (object_cost c.args.objects c.args.self.now.program.now c.args.self.now.greatest.now) (range_with_len 0 n)) last in
    omega (arith, all, c.loop-object.invariant.spent)
