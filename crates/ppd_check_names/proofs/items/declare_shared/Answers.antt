use Rattle.std.proofs.Common.{◌∙◌, rules, FitsSigned, w64, subst, OnOk, List, [], ◌∷◌, arith}
use Rattle.std.proofs.lemmas.Int.{to_z-of_z}
use Rattle.ppd_parse.specs.declared.node.Node.{Node}
use Rattle.ppd_check_names.specs.Syntax.{Item}
use Rattle.ppd_check_names.specs.Nodes.{label_name, phrases_below}
use Rattle.ppd_check_names.specs.Holding.{Declares}
use Rattle.ppd_check_names.proofs.Table.Listing.{shared_scalar}
use Rattle.ppd_check_names.proofs.Declared.Costs.{left_less}
use Rattle.ppd_check_names.proofs.items.declare_shared.Goals as goal

pub returns-in_default-clause-declares : goal.returns-in_default-clause-declares
returns-in_default-clause-declares g c =
    let fits : FitsSigned w64 c.start_at.result = search rules in
    subst (λ (i : Item). OnOk c.declare_scalar.result ((ns : List Node) → Declares ns (i ∷ []) c.args.globals.now c.declare_scalar.new.globals c.args.found.now c.declare_scalar.new.found))
    (shared_scalar (phrases_below c.args.source.nodes.now c.args.id) c.kind_at.result (label_name c.label_at-label.result) _ c.in_default.not-LeftBracket c.kind_at.ensures c.label_at-label.ensures (to_z-of_z w64 c.start_at.result fits ∙ c.start_at.ensures))
    c.declare_scalar.ensures.declares

pub returns-in_default-clause-cost : goal.returns-in_default-clause-cost
returns-in_default-clause-cost g c =
    omega (arith, c.declare_scalar.ensures.cost, left_less c.args.globals.now c.declare_scalar.new.globals c.declare_scalar.ensures.cells)

pub kind_at-requires : goal.kind_at-requires
kind_at-requires c = omega arith

pub label_at-label-requires : goal.label_at-label-requires
label_at-label-requires c = omega arith

pub size_at-length-requires : goal.size_at-length-requires
size_at-length-requires c = omega arith

pub start_at-requires : goal.start_at-requires
start_at-requires c = omega arith
