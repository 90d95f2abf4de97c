use Rattle.std.proofs.Common.{◌∙◌, List, None, ap}
use Rattle.std.proofs.lemmas.Result.{IfOk-weaker}
use Rattle.ppd_graph.specs.declared.sets.EdgeSets.{EdgeSets}
use Rattle.ppd_graph.specs.LogRecord.{edge_sets_in}
use Rattle.ppd_flow_past.specs.Edges.Found.{greatest_from}
use Rattle.ppd_graph.specs.Shared.{is_before_in}
use Rattle.ppd_flow_past.proofs.Edges.WritingEdges.{of_every}
use Rattle.ppd_flow_past.proofs.greatest.greatest_writing.Goals as goal

pub returns-clause-is : goal.returns-clause-is
returns-clause-is c =
    let past = c.args.past.now in
    let before = is_before_in past.program.now past.logs.now in
    IfOk-weaker c.greatest.result _ _ (λ best h.
    h ∙ ap (λ (sets : List (List EdgeSets)). greatest_from before c.args.cell None 0 None sets)
    c.requires.graph_is.sets
    ∙ of_every before c.args.cell (edge_sets_in past.logs.now)) c.greatest.ensures.is
