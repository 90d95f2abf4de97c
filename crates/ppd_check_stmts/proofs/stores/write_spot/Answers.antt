use Rattle.std.proofs.Common.{◌∙◌, sym, ap}
use Rattle.ppd_check_names.specs.declared.meaning.Use.TheVariants as U
use Rattle.ppd_check_names.specs.Faults.{first, first_of_both}
use Rattle.ppd_check_names.specs.Reading.{goal_formula}
use Rattle.ppd_check_names.specs.Nodes.{label_name, operand_formula}
use Rattle.ppd_check_stmts.specs.Values.{goal_said}
use Rattle.ppd_check_stmts.specs.Expressions.{formula_faults, name_faults}
use Rattle.ppd_check_names.proofs.Found.First.{found_in_both}
use Rattle.ppd_check_stmts.proofs.stores.write_spot.Goals as goal

pub returns-in_ok-at-in-Item-clause-faults : goal.returns-in_ok-at-in-Item-clause-faults
returns-in_ok-at-in-Item-clause-faults g c =
    found_in_both c.args.table.now.found c.used-meaning-in-Item.new.found c.write_term.new.table.found
    (name_faults U.Element c.args.frame.now.scopes (label_name c.in-Item.name)) (formula_faults c.args.frame.now.scopes (operand_formula c.args.source.nodes.now c.in-Item.index))
    c.used-meaning-in-Item.ensures.faults c.in_ok-at-in-Item.ensures.faults
    ∙ ap (λ g. first_of_both c.args.table.now.found (first (formula_faults c.args.frame.now.scopes (goal_formula (goal_said c.args.source.nodes.now g))))) (sym c.in-Item.is)
