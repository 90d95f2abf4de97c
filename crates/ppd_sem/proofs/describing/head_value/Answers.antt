use Rattle.std.proofs.Common.{rules, arith}
use Rattle.std.proofs.lemmas.Grind.{elements}
use Rattle.ppd_sem.proofs.describing.head_value.Goals as goal

pub as_slice-exprs-requires : goal.as_slice-exprs-requires
as_slice-exprs-requires c = search rules depth 1 fits 30

pub as_slice-requires : goal.as_slice-requires
as_slice-requires c = search rules depth 1 fits 30

pub ask-requires : goal.ask-requires
ask-requires c = grind (arith, elements) steps 250000

pub branch-value-requires : goal.branch-value-requires
branch-value-requires c = search rules depth 1 fits 30

pub kind_at-requires : goal.kind_at-requires
kind_at-requires c = search rules depth 1 fits 30

pub returns-in-Err : goal.returns-in-Err
returns-in-Err c = search rules depth 1 fits 30

pub returns-in-Ok : goal.returns-in-Ok
returns-in-Ok c = search rules depth 1 fits 30

pub returns-in_err-value : goal.returns-in_err-value
returns-in_err-value c = search rules depth 1 fits 30

pub top_cells-requires : goal.top_cells-requires
top_cells-requires c = search rules depth 1 fits 30

pub valued-requires : goal.valued-requires
valued-requires c = search rules depth 1 fits 30
