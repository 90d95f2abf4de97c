use Rattle.std.proofs.Common.{map}
use Rattle.std.specs.Prelude.{◌&&◌}
use Rattle.ppd_ast.specs.Members.{those}
use Rattle.ppd_deps.specs.Edges.{comes_to}
use Rattle.ppd_deps.proofs.Vocabulary.{local_edge}
use Rattle.ppd_deps.specs.Rows.{Adds, is_reader}
use Rattle.ppd_deps.proofs.adding.add_locals.Given as goal

abbrev pub invariant-loop-var : goal.invariant-loop-var
invariant-loop-var l = Adds l.initial.rows l.rows (λ t. map (local_edge l.stmt) (those l.var (λ v. is_reader l.program l.body v t && comes_to l.program l.body l.stmt v t)))
