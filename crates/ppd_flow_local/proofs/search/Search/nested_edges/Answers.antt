use Rattle.std.proofs.Common.{◌∙◌, sym, subst}
use Rattle.ppd_ast.specs.declared.plan.BlockKind.{BlockKind}
use Rattle.ppd_graph.specs.Own.{edges_of_nested}
use Rattle.ppd_flow_local.specs.Searches.{IsFound, plan_in, program_in, seen}
use Rattle.ppd_flow_local.proofs.search.Search.nested_edges.Goals as goal

pub returns-in-Loop : goal.returns-in-Loop
returns-in-Loop g c =
    subst (λ (kind : BlockKind). IsFound c.args.self.now
    (edges_of_nested (program_in c.args.self.now) (plan_in c.args.self.now) (seen c.args.self.now) c.args.self.now.process c.args.place.now.interval c.args.place.now.item c.args.interval c.args.block c.args.values.now kind)
    c.args.steps.now c.loop_edges.new.steps c.loop_edges.result)
    (sym c.in-Loop.is ∙ c.block_kind.ensures) (c.loop_edges.ensures c.args.interval)
