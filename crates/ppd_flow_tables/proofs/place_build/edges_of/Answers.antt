use Rattle.std.proofs.Common.{◌≡◌, ◌∙◌, ◌+◌, ◌∷◌, [], List, ℕ, ap, get_or, length, length-append}
use Rattle.ppd_model.specs.declared.entry.Entry.{Entry}
use Rattle.ppd_flow_tables.specs.Tables.{IsEdgeTable, edge_of}
use Rattle.ppd_flow_tables.proofs.EdgePlaces.{edge_next, edges_more}
use Rattle.ppd_flow_tables.proofs.place_build.edges_of.Goals as goal

pub loop-item-preserved : goal.loop-item-preserved
loop-item-preserved c =
    let k = c.args.interval in
    let items = c.args.items.now in
    let i = c.loop-item.item-index in
    let numbers = c.loop-item.numbers in
    let now = c.in_ok-edge.edge in
    let pushed = c.in_ok-push-2.ensures.ok in
    let last : (entries : List Entry) → IsEdgeTable entries c.args.edges.now → now ≡ edge_of entries k items (i + 1) =
    λ entries t. edge_next entries k items i c.loop-item.edge now c.item-item.result c.loop-item-test.true
    c.item-item.is (c.loop-item.invariant.last entries t)
    (c.in_ok-edge.ensures ∙ ap (λ n. c.loop-item.edge + n) (c.syncs_of_item.ensures entries t)) in
    record {
      long = ap length pushed ∙ length-append numbers (now ∷ []) ∙ ap (λ n. n + 1) c.loop-item.invariant.long;
      last = last;
      are = λ entries t j lt. ap (λ (xs : List ℕ). get_or xs j 0) pushed
          ∙ edges_more entries k items i now numbers c.loop-item.invariant.long (c.loop-item.invariant.are entries t)
          (last entries t) j lt;
    }
