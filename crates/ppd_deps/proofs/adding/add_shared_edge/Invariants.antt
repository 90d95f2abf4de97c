use Rattle.std.proofs.Common.{[], ◌∷◌}
use Rattle.std.specs.Prelude.{if◌then◌else◌}
use Rattle.ppd_ast.specs.Members.{has}
use Rattle.ppd_deps.proofs.Added.{AddsFirst}
use Rattle.ppd_deps.proofs.Vocabulary.{shared_edge}
use Rattle.ppd_deps.specs.Named.{shared_reads}
use Rattle.ppd_deps.proofs.adding.add_shared_edge.Given as goal

abbrev pub invariant-loop-number : goal.invariant-loop-number
invariant-loop-number l = AddsFirst l.number l.initial.rows l.rows (λ t. if has (shared_reads l.program t) l.var then shared_edge l.stmt l.var ∷ [] else [])
