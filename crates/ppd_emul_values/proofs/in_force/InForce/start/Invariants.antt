use Rattle.std.proofs.Common.{◌≡◌, ◌-◌, drop}
use Rattle.std.specs.Prelude.{zip}
use Rattle.ppd_emul_values.proofs.in_force.InForce.start.Given as goal

abbrev pub invariant-loop-index : goal.invariant-loop-index
invariant-loop-index l = l.self ≡ drop (l.count - l.index) (zip l.cells l.values)
