use Rattle.std.proofs.Common.{rules, FitsSigned, w64}
use Rattle.std.proofs.lemmas.Int.{to_z-of_z}
use Rattle.ppd_check_names.specs.Nodes.{label_name}
use Rattle.ppd_check_names.proofs.Declared.Declarations.{declares_scalar}
use Rattle.ppd_check_names.proofs.items.declare_scalar.Goals as goal

pub returns-clause-declares : goal.returns-clause-declares
returns-clause-declares g c = λ ns.
    let fits : FitsSigned w64 c.args.start = search rules in
    declares_scalar ns (label_name c.args.label) c.args.start c.args.globals.now c.add_scalar.new.globals c.args.found.now c.add_scalar.new.found
    (simp to_z-of_z at c.in_ok-add_scalar.ensures.globals) c.in_ok-add_scalar.ensures.faults
