use Rattle.std.proofs.Common.{◌∙◌, ap, map}
use Rattle.ppd_check_names.specs.Faults.{first, first_of_both}
use Rattle.ppd_check.specs.Sources.{past_statements}
use Rattle.ppd_check.specs.Placed.{place_of}
use Rattle.ppd_check.proofs.places.note_statements.Goals as goal

pub returns-clause-faults : goal.returns-clause-faults
returns-clause-faults g c = λ cs e.
    c.note_past.ensures.faults
    ∙ ap (λ ps. first_of_both c.args.found.now (first (past_statements ps)))
    (c.as_mut_slice.ensures.value ∙ c.in_ok-places.ensures.value ∙ ap (map place_of) e)
