use Rattle.std.proofs.Common.{◌∙◌, ap}
use Rattle.ppd_check_names.specs.Faults.{first, first_of_both, if_so}
use Rattle.ppd_check_names.specs.declared.fault.Cause.TheVariants.{Twice}
use Rattle.ppd_check_names.proofs.frame.declare.Goals as goal

pub returns-clause-faults : goal.returns-clause-faults
returns-clause-faults g c =
    c.note_if.ensures ∙ ap (λ b. first_of_both c.args.found.now (first (if_so b c.args.label.place Twice))) c.in_ok-twice.ensures.twice
