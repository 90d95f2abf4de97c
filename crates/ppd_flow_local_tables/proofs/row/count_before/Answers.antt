use Rattle.std.proofs.Common.{ltb, rules}
use Rattle.std.proofs.lemmas.List.Sorted.{IsPartitionPoint-from_clause, IsPartitionedBy-ltb}
use Rattle.ppd_flow_local_tables.proofs.row.count_before.Goals as goal

pub returns-clause-is : goal.returns-clause-is
returns-clause-is c =
    IsPartitionPoint-from_clause (λ n. ltb n c.args.place) _ _ c.partition_point.ensures.partitioned
    (IsPartitionedBy-ltb (λ n. n) _ c.args.place c.requires) (λ a r q k. search rules)
