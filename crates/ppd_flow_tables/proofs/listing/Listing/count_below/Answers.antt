use Rattle.std.proofs.Common.{ℕ, List, ltb, ltb-true, arith, rules, subst, sym}
use Rattle.std.specs.List.Sorted.{IsNonDecreasing}
use Rattle.std.proofs.lemmas.Bool.{ltb-false}
use Rattle.std.proofs.lemmas.List.Sorted.{IsPartitionPoint-from_clause, IsPartitionedBy-ltb}
use Rattle.ppd_flow_tables.specs.Writing.{IsCut}
use Rattle.ppd_flow_tables.proofs.listing.Listing.count_below.Goals as goal

pub returns : goal.returns
returns c =
    let keys = c.as_slice.result.now in
    let rises = subst IsNonDecreasing (sym c.as_slice.ensures) c.args.self.now.rising in
    let parted = IsPartitionedBy-ltb (λ k. k) keys c.args.limit rises in
    let point = IsPartitionPoint-from_clause (λ k. ltb k c.args.limit) keys _ c.partition_point.ensures.partitioned
    parted (λ a r q k. search rules) in
    subst (λ (ks : List ℕ). IsCut c.args.limit ks c.partition_point.result) c.as_slice.ensures (record {
      within = c.partition_point.ensures.bound;
      first = λ k d h. ltb-true _ _ (point.0 k d (omega arith) h);
      others = λ k d le there. ltb-false _ _ (point.1 k d le there);
    })
