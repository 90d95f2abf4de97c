use Rattle.std.proofs.Common.{◌≡◌, ◌++◌, take}
use Rattle.std.specs.List.{flat_map}
use Rattle.ppd_session.specs.Texts.{race_line}
use Rattle.ppd_session.proofs.races.put_lines.Given as goal

abbrev pub invariant-loop-race : goal.invariant-loop-race
invariant-loop-race l = l.text.items ≡ l.initial.text.items ++ flat_map (race_line l.program) (take l.race-index l.races)
