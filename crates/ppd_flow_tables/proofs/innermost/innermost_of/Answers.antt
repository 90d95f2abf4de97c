use Rattle.std.proofs.Common.{◌≡◌, ◌+◌, ◌<◌, ◌≤◌, ◌∙◌, List, ap, arith, drop, get_or, length, refl, subst, sym}
use Rattle.std.specs.Prelude.{slice_get, []}
use Rattle.std.proofs.lemmas.List.{drop_all, length-replicate}
use Rattle.ppd_model.specs.Extents.{Extent, extents}
use Rattle.ppd_graph.specs.Ends.{innermost_from}
use Rattle.ppd_flow_past.specs.Edges.Found.{stands_there}
use Rattle.ppd_flow_past.proofs.Edges.Standing.{extents_count, innermost_next}
use Rattle.ppd_flow_tables.proofs.Painted.{zero_there}
use Rattle.ppd_flow_tables.proofs.innermost.innermost_of.Goals as goal

pub loop-interval-init : goal.loop-interval-init
loop-interval-init c = record {
  long = ap length c.in_ok-innermost.ensures ∙ length-replicate (c.args.count + 1) 0;
  are = λ n le. ap (λ m. innermost_from n m 0 (extents (get_or c.args.past.now.logs.now.lists c.args.process [])))
      (zero_there (c.args.count + 1) n c.in_ok-innermost.innermost c.in_ok-innermost.ensures (omega (arith, le)));
}

pub loop-interval-preserved : goal.loop-interval-preserved
loop-interval-preserved c =
    let inv = c.loop-interval.invariant in
    let xs = extents (get_or c.args.past.now.logs.now.lists c.args.process []) in
    let k = c.loop-interval.interval in
    let old = c.loop-interval.innermost in
    let count : c.count-interval-end.result ≡ length xs =
    c.count-interval-end.ensures ∙ sym (extents_count c.args.past.now c.args.process c.requires.index_is) in
    let lt : k < length xs = subst (λ n. k < n) count c.loop-interval-test.true in
    let long = inv.long in
    record {
      long = c.paint_interval.ensures.long ∙ long;
      are = λ n le.
          ap (λ m. innermost_from n m (k + 1) (drop (k + 1) xs))
          (c.paint_interval.ensures.is n (omega (arith, le, long)))
          ∙ sym (innermost_next n (get_or old n 0) k xs (stands_there n (slice_get xs k)) lt refl)
          ∙ inv.are n le;
    }

pub returns : goal.returns
returns c =
    let inv = c.loop-interval.invariant in
    let xs = extents (get_or c.args.past.now.logs.now.lists c.args.process []) in
    let k = c.loop-interval.interval in
    let count : c.count-interval-end.result ≡ length xs =
    c.count-interval-end.ensures ∙ sym (extents_count c.args.past.now c.args.process c.requires.index_is) in
    let over : length xs ≤ k = subst (λ n. n ≤ k) count c.loop-interval-test.false in
    λ n le.
    sym (ap (λ (ys : List Extent). innermost_from n (get_or c.loop-interval.innermost n 0) k ys) (drop_all k xs over))
    ∙ inv.are n le
