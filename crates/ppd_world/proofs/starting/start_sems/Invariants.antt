use Rattle.std.proofs.Common.{◌≡◌, map, take}
use Rattle.ppd_world.proofs.starting.start_sems.Given as goal

abbrev pub invariant-loop-sem : goal.invariant-loop-sem
invariant-loop-sem l = l.sems.items ≡ map (λ s. record { given = s.start; taken = 0 }) (take l.sem-index l.program.sems)
