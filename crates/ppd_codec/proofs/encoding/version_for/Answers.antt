use Rattle.std.proofs.Common.{ap}
use Rattle.ppd_codec.specs.declared.facts.Facts.{Facts}
use Rattle.ppd_codec.proofs.encoding.version_for.Goals as goal

pub returns-in-Ok : goal.returns-in-Ok
returns-in-Ok c = (c.in-Ok.program, c.in-Ok.ensures.read, ap (λ (x : Facts). x.version) c.facts_of.ensures)
