use Rattle.std.proofs.Common.{ap, sym, ◌∙◌}
use Rattle.std.specs.FinMap as map
use Rattle.ppd_activations.proofs.Kept.{got}
use Rattle.ppd_activations.proofs.by_number.ByNumber.get.Goals as goal

pub returns : goal.returns
returns g c =
    c.copied.ensures ∙ c.get.ensures.value ∙ sym (got c.self.inside.kept.entries c.args.number) ∙ ap (λ m. map.get m c.args.number) c.self.view_is
