use Rattle.std.specs.List.{flat_map, range_with_len}
use Rattle.ppd_deps.proofs.Vocabulary.{data_from}
use Rattle.ppd_deps.specs.Rows.{Adds}
use Rattle.ppd_deps.proofs.adding.add_data.Given as goal

abbrev pub invariant-loop-number : goal.invariant-loop-number
invariant-loop-number l = Adds l.initial.rows l.rows (λ t. flat_map (λ s. data_from l.program s t) (range_with_len 0 l.number))
