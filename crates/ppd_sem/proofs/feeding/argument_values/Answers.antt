use Rattle.std.proofs.Common.{rules}
use Rattle.ppd_sem.proofs.feeding.argument_values.Goals as goal

pub allocator-requires : goal.allocator-requires
allocator-requires c = search rules depth 1 fits 30

pub arguments_in-requires : goal.arguments_in-requires
arguments_in-requires c = search rules depth 1 fits 30

pub as_slice-requires : goal.as_slice-requires
as_slice-requires c = search rules depth 1 fits 30

pub as_slice-requires-2 : goal.as_slice-requires-2
as_slice-requires-2 c = search rules depth 1 fits 30

pub kind_at-requires : goal.kind_at-requires
kind_at-requires c = search rules depth 1 fits 30

pub returns-clause-values : goal.returns-clause-values
returns-clause-values c = search rules depth 1 fits 30

pub top_cells-requires : goal.top_cells-requires
top_cells-requires c = search rules depth 1 fits 30

pub values_given-requires-clause-children : goal.values_given-requires-clause-children
values_given-requires-clause-children c = search rules depth 1 fits 30

pub values_given-requires-clause-limit : goal.values_given-requires-clause-limit
values_given-requires-clause-limit c = search rules depth 1 fits 30
