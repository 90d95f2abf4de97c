use Rattle.std.specs.Prelude.{get_or, []}
use Rattle.std.proofs.Common.{◌≡◌, ◌+◌, ◌<◌, ◌≤◌, ◌∙◌, List, ap, drop, length, subst, sym}
use Rattle.std.proofs.lemmas.List.{drop_all}
use Rattle.ppd_model.specs.Extents.{Extent, extents}
use Rattle.ppd_graph.specs.Ends.{innermost_from}
use Rattle.ppd_flow_past.proofs.Edges.Standing.{extents_count, innermost_next}
use Rattle.ppd_flow_past.proofs.ends.innermost_at.Goals as goal

pub loop-interval-preserved : goal.loop-interval-preserved
loop-interval-preserved c =
    let xs = extents (get_or c.args.past.now.logs.now.lists c.args.process []) in
    let k = c.loop-interval.interval in
    let count : c.count-interval-end.result ≡ length xs = c.count-interval-end.ensures
    ∙ sym (extents_count c.args.past.now c.args.process c.requires.index_is) in
    let lt : k < length xs = subst (λ n. k < n) count c.loop-interval-test.true in
    ap (λ m. innermost_from c.args.n m (k + 1) (drop (k + 1) xs)) c.chosen-innermost.ensures
    ∙ sym (innermost_next c.args.n c.loop-interval.innermost k xs c.stands_in.result lt c.stands_in.ensures)
    ∙ c.loop-interval.invariant

pub returns : goal.returns
returns c =
    let xs = extents (get_or c.args.past.now.logs.now.lists c.args.process []) in
    let k = c.loop-interval.interval in
    let count : c.count-interval-end.result ≡ length xs = c.count-interval-end.ensures
    ∙ sym (extents_count c.args.past.now c.args.process c.requires.index_is) in
    let over : length xs ≤ k = subst (λ n. n ≤ k) count c.loop-interval-test.false in
    sym (ap (λ (ys : List Extent). innermost_from c.args.n c.loop-interval.innermost k ys) (drop_all k xs over))
    ∙ c.loop-interval.invariant
