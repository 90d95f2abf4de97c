use Rattle.std.proofs.Common.{◌≡◌, [], drop, ◌+◌}
use Rattle.ppd_graph.specs.ByNumber.{is_kept}
use Rattle.ppd_graph.proofs.Vocabulary.{twice_by}
use Rattle.ppd_graph.specs.Refusals.{twice_after}
use Rattle.ppd_graph.proofs.Kept.{KeepsFor}
use Rattle.ppd_graph.proofs.by_number.keep_all.Given as goal

abbrev pub invariant-loop-one : goal.invariant-loop-one
invariant-loop-one g l = record {
  kept : KeepsFor l.program l.numbers (drop l.one-index l.placed) l.placed;
  twice : twice_by l.program (is_kept l.numbers) (drop l.one-index l.placed) ≡ twice_after l.program [] l.placed;
  spent : l.steps ≡ l.fn.steps + l.one-index;
}
