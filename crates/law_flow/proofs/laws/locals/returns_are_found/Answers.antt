use Rattle.law_flow.proofs.Locals.Returned.{returns_found}
use Rattle.law_flow.proofs.laws.locals.returns_are_found.Goals as goal

pub returns : goal.returns
returns c = returns_found
