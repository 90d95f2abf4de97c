use Rattle.std.proofs.Common.{[], map}
use Rattle.std.specs.Prelude.{nat_lt, if◌then◌else◌}
use Rattle.ppd_ast.specs.Lookups.{body_of}
use Rattle.ppd_deps.specs.Edges.{locals_from}
use Rattle.ppd_deps.proofs.Vocabulary.{local_edge}
use Rattle.ppd_deps.specs.Rows.{Adds}
use Rattle.ppd_deps.proofs.adding.add_locals_of_all.Given as goal

abbrev pub invariant-loop-body : goal.invariant-loop-body
invariant-loop-body l = Adds l.initial.rows l.rows (λ t. if nat_lt (body_of l.program t) l.body then map (local_edge l.stmt) (locals_from l.program l.stmt t) else [])
