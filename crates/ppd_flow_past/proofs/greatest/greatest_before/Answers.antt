use Rattle.std.proofs.Common.{◌∙◌, List, None, Some, ap}
use Rattle.std.proofs.lemmas.Result.{IfOk-weaker}
use Rattle.ppd_graph.specs.declared.sets.EdgeSets.{EdgeSets}
use Rattle.ppd_graph.specs.LogRecord.{edge_sets_in}
use Rattle.ppd_flow_past.specs.Edges.Found.{greatest_from}
use Rattle.ppd_graph.specs.Shared.{is_before_in}
use Rattle.ppd_flow_past.proofs.Edges.WritingEdges.{of_those}
use Rattle.ppd_flow_past.proofs.greatest.greatest_before.Goals as goal

pub returns-clause-is : goal.returns-clause-is
returns-clause-is c =
    let past = c.args.past.now in
    let before = is_before_in past.program.now past.logs.now in
    IfOk-weaker c.greatest.result _ _ (λ best h.
    h ∙ ap (λ (sets : List (List EdgeSets)). greatest_from before c.args.cell
    (Some c.args.edge) 0 None sets) c.requires.graph_is.sets
    ∙ of_those before c.args.cell c.args.edge (edge_sets_in past.logs.now)) c.greatest.ensures.is
