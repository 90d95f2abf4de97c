use Rattle.std.proofs.Common.{◌∙◌, ap, nat_lt, length, not}
use Rattle.ppd_check_names.specs.declared.fault.Cause.TheVariants.{NoProcess}
use Rattle.ppd_check_names.specs.Faults.{first, first_of_both, if_so}
use Rattle.ppd_check_names.proofs.Declared.Walks.{processes_held}
use Rattle.ppd_check_names.proofs.collecting.note_no_process.Goals as goal

pub returns : goal.returns
returns c = λ held h.
    c.note_unless.ensures
    ∙ ap (λ b. first_of_both c.args.found.now (first (if_so (not b) c.end_at-end.result NoProcess))) (c.has_process.ensures ∙ ap (nat_lt 0) (processes_held c.args.source.nodes.now c.args.globals.now held h))
    ∙ ap (λ p. first_of_both c.args.found.now (first (if_so (not (nat_lt 0 (length held.processes))) p NoProcess))) c.end_at-end.ensures
