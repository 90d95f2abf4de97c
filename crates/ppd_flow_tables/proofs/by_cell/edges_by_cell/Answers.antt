use Rattle.std.proofs.Common.{◌++◌, ◌∙◌, List, [], ap, get_or, sym, ℕ}
use Rattle.ppd_graph.specs.declared.sets.EdgeSets.{EdgeSets}
use Rattle.ppd_flow_tables.specs.Writing.{listed_in, times_in}
use Rattle.ppd_flow_tables.proofs.Growing.{edge_listed, edges_listed}
use Rattle.ppd_flow_tables.proofs.by_cell.edges_by_cell.Goals as goal

pub loop-edge-init : goal.loop-edge-init
loop-edge-init c = λ k. ap (λ (l : List (List ℕ)). get_or l k [] ++ listed_in k 0 c.args.sets.now) c.new-lists.ensures.items

pub loop-edge-preserved : goal.loop-edge-preserved
loop-edge-preserved c =
    let own : EdgeSets = c.index-sets-edge.result in
    edge_listed c.args.sets.now c.loop-edge.edge own own c.loop-edge.lists.items c.list_writes.new.lists.items c.loop-edge-test.true c.index-sets-edge.is c.loop-edge.invariant
    (λ k. c.in_ok-list_writes.ensures k
    ∙ ap (λ (ws : List ℕ). get_or c.loop-edge.lists.items k [] ++ times_in k c.loop-edge.edge ws) (c.as_slice.ensures ∙ ap (λ (s : EdgeSets). s.writes) (sym c.index-sets-edge.is)))

pub returns : goal.returns
returns c = λ k. ap (λ (l : List (List ℕ)). get_or l k []) c.from_vec.ensures ∙ edges_listed c.args.sets.now c.loop-edge.edge c.loop-edge.lists.items c.loop-edge-test.false c.loop-edge.invariant k
