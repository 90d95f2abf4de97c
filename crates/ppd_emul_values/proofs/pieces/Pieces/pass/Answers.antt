use Rattle.std.proofs.Common.{◌∙◌, drop, ap}
use Rattle.ppd_emul_values.proofs.Held.{drop_next}
use Rattle.ppd_emul_values.proofs.pieces.Pieces.pass.Goals as goal

pub returns-then-self-pieces : goal.returns-then-self-pieces
returns-then-self-pieces c = drop_next c.self.inside.log.now.pieces c.self.inside.next ∙ ap (λ l. drop 1 l) c.self.view_is
