use Rattle.std.specs.Prelude.{Some}
use Rattle.std.proofs.Common.{◌∙◌, ap, refl}
use Rattle.ppd_top.proofs.DrillEnds.{drills_from, never_rose}
use Rattle.ppd_top.proofs.drilling.drill_program.Goals as goal

pub returns : goal.returns
returns g c =
    drills_from c.args.program.now c.flow.result.schedule _ _ c.flow.result.status _ c.flow.ensures
    (ap (λ s. Some s.left) c.new-input.ensures ∙ ap Some c.in-Ok.ensures.items) refl never_rose
