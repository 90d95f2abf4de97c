use Rattle.std.proofs.Common.{◌≡◌, reverse, map, take}
use Rattle.ppd_check_names.specs.Names.{meaning, scope_of}
use Rattle.ppd_check_names.proofs.scopes.find_in.Given as goal

-- the maps that are left decide
abbrev pub invariant-loop-left : goal.invariant-loop-left
invariant-loop-left l = meaning (reverse (map scope_of (take l.left l.maps))) l.name ≡ meaning (reverse (map scope_of l.maps)) l.name
