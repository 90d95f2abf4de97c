use Rattle.std.proofs.Common.{◌≡◌, take}
use Rattle.std.specs.Prelude.{not}
use Rattle.std.specs.List.{filter}
use Rattle.ppd_blocks.specs.Walk.{is_between}
use Rattle.ppd_blocks.proofs.ways.unit_row.Given as goal

abbrev pub invariant-loop-index : goal.invariant-loop-index
invariant-loop-index l = l.ids ≡ filter (λ t. not (is_between l.program l.loops l.stmt t)) (take l.index l.numbers)
