use Rattle.std.specs.Prelude.{OnOk}
use Rattle.std.specs.List.{flat_map}
use Rattle.std.proofs.Common.{◌≡◌, ◌++◌, List, arith, subst, ◌∙◌}
use Rattle.ppd_deps.specs.declared.edges.StaticEdge.{StaticEdge}
use Rattle.ppd_session.specs.Texts.{edge_line}
use Rattle.ppd_session.proofs.Static.{row_count, row_is}
use Rattle.ppd_session.proofs.deps.put_edges_into.Goals as goal

pub edges_into-requires : goal.edges_into-requires
edges_into-requires c = omega (arith, row_count c.args.program.now c.args.graph.now c.requires.graph, c.requires.there)

pub returns : goal.returns
returns c =
    let is = c.edges_into.ensures ∙ row_is c.args.program.now c.args.graph.now c.args.stmt c.requires.graph c.requires.there in
    subst (λ (edges : List StaticEdge). OnOk c.put_edges.result (c.put_edges.new.text.items ≡ c.args.text.now.items ++ flat_map (edge_line c.args.program.now c.args.stmt) edges)) is c.put_edges.ensures
