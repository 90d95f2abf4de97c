use Rattle.std.proofs.Common.{ap, map, reverse}
use Rattle.ppd_check_names.specs.Names.{scope_of}
use Rattle.ppd_check_names.proofs.scopes.Scopes.new.Goals as goal

pub returns : goal.returns
returns c = ap (λ ms. reverse (map scope_of ms)) c.new.ensures.items
