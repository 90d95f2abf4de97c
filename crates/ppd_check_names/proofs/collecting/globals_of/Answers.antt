use Rattle.std.proofs.Common.{subst, ◌≡◌, ◌++◌, List, OnOk, IfOk}
use Rattle.ppd_check_names.specs.Syntax.{Item}
use Rattle.ppd_check_names.specs.Faults.{first, first_of_both}
use Rattle.ppd_check_names.specs.Holding.{Holds}
use Rattle.ppd_check_names.specs.Globals.{no_globals, items_faults, count_faults}
use Rattle.ppd_check_names.specs.Holding.{with_items}
use Rattle.ppd_check_names.proofs.Table.Roots.{items_root}
use Rattle.ppd_check_names.proofs.collecting.globals_of.Goals as goal

pub returns-clause-holds : goal.returns-clause-holds
returns-clause-holds g c =
    subst (λ (is : List Item). IfOk c.declare_source.result (λ held. Holds c.args.source.nodes.now held (with_items is no_globals))) (items_root c.args.source.nodes.now) c.declare_source.ensures.holds

pub returns-clause-faults : goal.returns-clause-faults
returns-clause-faults g c =
    subst (λ (is : List Item). OnOk c.declare_source.result (c.declare_source.new.found ≡ first_of_both c.args.found.now (first (items_faults is no_globals ++ count_faults (with_items is no_globals))))) (items_root c.args.source.nodes.now)
    c.declare_source.ensures.faults
