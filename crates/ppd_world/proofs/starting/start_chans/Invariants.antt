use Rattle.std.proofs.Common.{◌≡◌, [], map, take}
use Rattle.ppd_world.proofs.starting.start_chans.Given as goal

abbrev pub invariant-loop-chan : goal.invariant-loop-chan
invariant-loop-chan l = l.chans.items ≡ map (λ c. record { capacity = c.capacity; sent = []; received = 0; completed = 0 }) (take l.chan-index l.program.chans)
