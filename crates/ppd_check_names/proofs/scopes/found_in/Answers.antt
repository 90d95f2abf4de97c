use Rattle.ppd_check_names.proofs.Found.Lookup.{found_told}
use Rattle.ppd_check_names.proofs.scopes.found_in.Goals as goal

pub returns : goal.returns
returns c = found_told c.args.scope.now c.args.name.now _ _ c.copied.ensures c.get.ensures.value
