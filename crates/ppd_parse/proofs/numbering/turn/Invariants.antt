use Rattle.std.proofs.Common.{◌≡◌, take}
use Rattle.ppd_parse.specs.Renumbered.{turned}
use Rattle.ppd_parse.proofs.numbering.turn.Given as goal

abbrev pub invariant-loop-id : goal.invariant-loop-id
invariant-loop-id l = l.turns.items ≡ turned l.count (take l.id-index l.ids)
