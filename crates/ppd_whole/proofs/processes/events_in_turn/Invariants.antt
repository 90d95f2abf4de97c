use Rattle.std.proofs.Common.{◌≡◌, map, take}
use Rattle.law_flow.specs.Joined.{events_in}
use Rattle.ppd_flow.specs.SharedCells.{seens_in}
use Rattle.ppd_whole.proofs.processes.events_in_turn.Given as goal

abbrev pub invariant-loop-p : goal.invariant-loop-p
invariant-loop-p l = map (λ es. map (λ e. e.now) es.items) l.all.items ≡ take l.p (map events_in (seens_in l.past))
