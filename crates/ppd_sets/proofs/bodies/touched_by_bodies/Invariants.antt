use Rattle.std.proofs.Common.{◌≡◌, length}
use Rattle.ppd_ast.specs.Table.{EachAt}
use Rattle.ppd_sets.proofs.Vocabulary.{body_reads, body_writes}
use Rattle.ppd_sets.specs.Gained.{HasBoth}
use Rattle.ppd_sets.proofs.bodies.touched_by_bodies.Given as goal

abbrev pub invariant-loop-number : goal.invariant-loop-number
invariant-loop-number l = record {
  long : length l.list ≡ l.number;
  each : EachAt (λ k t. HasBoth t (body_reads l.program k) (body_writes l.program k)) l.list;
}
