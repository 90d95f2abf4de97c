use Rattle.std.proofs.Common.{◌≡◌, drop}
use Rattle.std.specs.Prelude.{fold}
use Rattle.ppd_clean.specs.Firsts.{least_of, with_race}
use Rattle.ppd_clean.proofs.firsts.least.Given as goal

abbrev pub invariant-loop-race : goal.invariant-loop-race
invariant-loop-race l = fold (with_race l.process) l.least (drop l.race-index l.races) ≡ least_of l.races l.process
