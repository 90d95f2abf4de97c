use Rattle.std.proofs.Common.{◌≤◌, ◌<◌, ◌∙◌, subst}
use Rattle.ppd_graph.specs.Graphs.{IsEdge, edge_count}
use Rattle.ppd_flow_past.proofs.Edges.Before.{before_is, before_none}
use Rattle.ppd_flow_past.proofs.greatest.is_before.Goals as goal

pub returns-then-b-edges : goal.returns-then-b-edges
returns-then-b-edges c =
    let past = c.args.past.now in
    let count = c.edges.ensures (c.requires.past.graph_is.few c.args.b.process) in
    let there : IsEdge past.graph.now c.args.b = subst (λ n. c.args.b.edge < n) count c.if-b-edges.true in
    c.before-then-b-edges.ensures ∙ before_is past.program.now past.logs.now past.graph.now c.requires.past.graph_is
    c.args.a c.args.b c.requires.a there

pub returns-else-b-edges : goal.returns-else-b-edges
returns-else-b-edges c =
    let past = c.args.past.now in
    let count = c.edges.ensures (c.requires.past.graph_is.few c.args.b.process) in
    let far : edge_count past.graph.now c.args.b.process ≤ c.args.b.edge = subst
    (λ n. n ≤ c.args.b.edge) count c.if-b-edges.false in
    c.is_earlier.ensures ∙ before_none past.program.now past.logs.now past.graph.now c.requires.past.graph_is
    c.args.a c.args.b far
