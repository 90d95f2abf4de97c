use Rattle.std.proofs.Common.{◌∙◌, Ok, false, refl, sym, true}
use Rattle.ppd_model.specs.declared.flow.Origin.TheVariants.{Initial}
use Rattle.ppd_flow_local.proofs.Joined.{nothing}
use Rattle.ppd_flow_local.proofs.Rounds.{parameter_found}
use Rattle.ppd_flow_local.proofs.search.Search.parameter.Goals as goal

pub returns-then-has_cell : goal.returns-then-has_cell
returns-then-has_cell g c =
    parameter_found c.args.self.now c.args.interval c.args.cell c.block_of-block.result c.in-Function.field-0 c.args.steps.now c.call_of.new.steps
    c.kind.result c.prelog_cells.result.now true c.call_of.result c.kind.ensures c.in-Function.is c.block_of-block.ensures c.prelog_cells.ensures
    (sym c.if-has_cell.true ∙ c.has_cell.ensures) c.call_of.ensures

pub returns-else-has_cell : goal.returns-else-has_cell
returns-else-has_cell g c =
    parameter_found c.args.self.now c.args.interval c.args.cell c.block_of-block.result c.in-Function.field-0 c.args.steps.now c.args.steps.now
    c.kind.result c.prelog_cells.result.now false (Ok Initial) c.kind.ensures c.in-Function.is c.block_of-block.ensures c.prelog_cells.ensures
    (sym c.if-has_cell.false ∙ c.has_cell.ensures) (nothing c.args.self.now Initial Initial c.args.steps.now refl)
