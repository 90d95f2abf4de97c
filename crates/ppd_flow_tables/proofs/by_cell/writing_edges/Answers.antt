use Rattle.std.proofs.Common.{◌∙◌, ◌+◌, List, [], ap, arith, subst, sym, ℕ}
use Rattle.ppd_graph.specs.declared.sets.EdgeSets.{EdgeSets}
use Rattle.ppd_model.proofs.Lists.{get_or_any}
use Rattle.ppd_flow_tables.specs.Writing.{AreWritingEdges, listed_in}
use Rattle.ppd_flow_tables.proofs.Growing.{AreRows, all_rows, no_rows, row_more}
use Rattle.ppd_flow_tables.proofs.by_cell.writing_edges.Goals as goal

pub loop-process-init : goal.loop-process-init
loop-process-init c = subst (AreRows c.edge_sets-sets.result.now 0) (sym c.new-rows.ensures) (no_rows c.edge_sets-sets.result.now)

pub loop-process-preserved : goal.loop-process-preserved
loop-process-preserved c =
    let sets : List (List EdgeSets) = c.edge_sets-sets.result.now in
    let process : ℕ = c.loop-process.process in
    subst (AreRows sets (process + 1)) (sym c.in_ok-push.ensures.ok) (row_more sets process c.loop-process.rows c.in_ok-lists.lists c.loop-process.invariant (λ k.
    c.in_ok-lists.ensures k ∙ ap (listed_in k 0) (c.as_slice.ensures ∙ c.index-sets-process.is ∙ get_or_any sets process _ [] c.loop-process-test.true)))

pub returns : goal.returns
returns c =
    let sets : List (List EdgeSets) = c.edge_sets-sets.result.now in
    subst (λ (own : List (List EdgeSets)). AreWritingEdges own (record { rows = c.loop-process.rows })) c.edge_sets-sets.ensures (record {
      few = c.if-sets-gt256.false;
      long = let long = c.loop-process.invariant.long in let most = c.loop-process.auto.process-end in let least = c.loop-process-test.false in omega (arith, long, most, least);
      lists = all_rows sets c.loop-process.process c.loop-process.rows c.loop-process-test.false c.loop-process.invariant;
    })
