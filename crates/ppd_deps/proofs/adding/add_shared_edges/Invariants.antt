use Rattle.std.proofs.Common.{map, take}
use Rattle.std.specs.List.{filter}
use Rattle.ppd_ast.specs.Members.{has}
use Rattle.ppd_deps.proofs.Vocabulary.{shared_edge}
use Rattle.ppd_deps.specs.Named.{shared_reads}
use Rattle.ppd_deps.specs.Rows.{Adds}
use Rattle.ppd_deps.proofs.adding.add_shared_edges.Given as goal

abbrev pub invariant-loop-var : goal.invariant-loop-var
invariant-loop-var l = Adds l.initial.rows l.rows (λ t. map (shared_edge l.stmt) (filter (has (shared_reads l.program t)) (take l.var-index l.vars)))
