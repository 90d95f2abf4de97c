use Rattle.std.proofs.Common.{◌≡◌, map, take}
use Rattle.std.specs.List.{flat_map, enumerate_from}
use Rattle.ppd_blocks.specs.Starts.{unit_of}
use Rattle.ppd_blocks.proofs.Vocabulary.{starts_in}
use Rattle.ppd_blocks.proofs.numbering.units.Given as goal

abbrev pub invariant-loop-number : goal.invariant-loop-number
invariant-loop-number l = l.units ≡ map (unit_of l.program l.loops) (flat_map (λ e. starts_in l.program l.loops e.0 e.1) (enumerate_from 0 (take l.number l.bodies)))
