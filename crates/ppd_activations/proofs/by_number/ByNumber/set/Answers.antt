use Rattle.std.proofs.Common.{ap, ◌∙◌}
use Rattle.std.specs.FinMap as map
use Rattle.ppd_activations.proofs.Kept.{put}
use Rattle.ppd_activations.proofs.by_number.ByNumber.set.Goals as goal

pub returns : goal.returns
returns g c =
    put c.self.inside.kept.entries c.insert.new.self.entries c.args.number c.args.value c.in_ok-insert.ensures.updates.0 ∙ ap (λ m. map.insert m c.args.number c.args.value) c.self.view_is
