use Rattle.std.proofs.Common.{◌≡◌, ◌∙◌, subst}
use Rattle.ppd_check.specs.Read.{IsRead, IsRefused}
use Rattle.ppd_top_drill.specs.Drills.{generated}
use Rattle.ppd_top.specs.Ran.Drilled.{drilled}
use Rattle.ppd_top.proofs.DrillEnds.{never_refused}
use Rattle.ppd_top.proofs.drilling.drill.Goals as goal

pub returns-in-Err : goal.returns-in-Err
returns-in-Err g c =
    let e : c.deref.result.now ≡ generated c.args.number = c.deref.ensures.value ∙ c.in-Ok.ensures in
    never_refused c.args.number c.in-Err.error (c.drills_are_read.ensures c.args.number c.requires)
    (subst (λ b. IsRefused b c.in-Err.error) e c.in-Err.ensures.refused) _ _ _ _ _ _ c.refuse.ensures.schedule c.refuse.ensures.refused

pub returns : goal.returns
returns g c =
    let e : c.deref.result.now ≡ generated c.args.number = c.deref.ensures.value ∙ c.in-Ok.ensures in
    drilled c.in-Ok-read_source.program (subst (λ b. IsRead b c.in-Ok-read_source.program) e c.in-Ok-read_source.ensures.read) c.drill_program-outcome.ensures
