use Rattle.std.proofs.Common.{[], ◌∷◌}
use Rattle.std.specs.Prelude.{◌&&◌, if◌then◌else◌}
use Rattle.ppd_sets.specs.WorkList.{is_marked}
use Rattle.ppd_deps.proofs.Added.{AddsFirst}
use Rattle.ppd_deps.proofs.Vocabulary.{local_edge}
use Rattle.ppd_deps.specs.Rows.{is_reader}
use Rattle.ppd_deps.proofs.adding.add_local_edge.Given as goal

abbrev pub invariant-loop-number : goal.invariant-loop-number
invariant-loop-number l = AddsFirst l.number l.initial.rows l.rows (λ t. if is_reader l.program l.local.body l.local.var t && is_marked l.marks t then local_edge l.stmt l.local.var ∷ [] else [])
