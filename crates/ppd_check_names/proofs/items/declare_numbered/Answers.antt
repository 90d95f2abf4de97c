use Rattle.std.proofs.Common.{◌∙◌, ap, not}
use Rattle.ppd_check_names.specs.declared.fault.Cause.TheVariants.{BadSize}
use Rattle.ppd_check_names.specs.Faults.{first, first_of_both, if_so}
use Rattle.ppd_check_names.specs.Nodes.{label_name}
use Rattle.ppd_check_names.proofs.Declared.Declarations.{declares_numbered}
use Rattle.ppd_check_names.proofs.items.declare_numbered.Goals as goal

pub returns-clause-declares : goal.returns-clause-declares
returns-clause-declares g c = λ ns.
    declares_numbered ns c.args.sort (label_name c.args.label) c.args.size c.args.globals.now c.add_numbered.new.globals c.args.found.now c.add_numbered.new.found c.note_unless.new.found
    c.in_ok-add_numbered.ensures.globals c.in_ok-add_numbered.ensures.faults
    (c.note_unless.ensures ∙ ap (λ b. first_of_both c.add_numbered.new.found (first (if_so (not b) c.args.size.place BadSize))) c.is_fit-fits.ensures)
