use Rattle.std.proofs.Common.{◌≡◌, map, take}
use Rattle.std.specs.Prelude.{get_or, pos}
use Rattle.ppd_model.proofs.values.values_at.Given as goal

abbrev pub invariant-loop-place : goal.invariant-loop-place
invariant-loop-place l = l.found ≡ map (λ c. get_or l.values c (pos 0)) (take l.place-index l.places)
