use Rattle.std.proofs.Common.{◌≡◌, ◌-◌, ◌+◌}
use Rattle.std.specs.List.{range_with_len, sum_by}
use Rattle.ppd_graph.specs.ByNumber.{numbered_kept}
use Rattle.ppd_graph.specs.Refusals.{first_missing, object_count, object_misses}
use Rattle.ppd_graph.specs.Spending.{object_cost}
use Rattle.ppd_graph.proofs.missing.Numbers.missing_among.Given as goal

abbrev pub invariant-loop-object : goal.invariant-loop-object
invariant-loop-object g l = record {
  holds : first_missing (object_misses l.objects l.self.program.now (numbered_kept l.self.nodes.now l.self.greatest.now)) (range_with_len l.object (object_count l.objects l.self.program.now - l.object))
      ≡ first_missing (object_misses l.objects l.self.program.now (numbered_kept l.self.nodes.now l.self.greatest.now)) (range_with_len 0 (object_count l.objects l.self.program.now));
  spent : l.steps ≡ l.fn.steps + sum_by (object_cost l.objects l.self.program.now l.self.greatest.now) (range_with_len 0 l.object);
}
