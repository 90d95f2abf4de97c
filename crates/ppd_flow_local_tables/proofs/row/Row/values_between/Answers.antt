use Rattle.std.proofs.Common.{subst, arith}
use Rattle.ppd_flow_local_tables.proofs.RowLemmas.{IsPoint, slice_is, slice_none}
use Rattle.ppd_flow_local_tables.proofs.row.Row.values_between.Goals as goal

pub returns-then-start-end : goal.returns-then-start-end
returns-then-start-end g c =
    slice_is _ _ _ c.self.invariant.0 c.self.view_is c.args.from c.args.to _ _
    (subst (λ l. IsPoint c.args.from l c.count_before-start.result)
    c.as_slice.ensures.value c.count_before-start.ensures.is)
    (subst (λ l. IsPoint c.args.to l c.count_before-end.result)
    c.as_slice-2.ensures.value c.count_before-end.ensures.is)
    (omega arith) _ c.as_slice-then-start-end.ensures.value

pub returns-else-start-end : goal.returns-else-start-end
returns-else-start-end g c =
    slice_none _ _ _ c.self.invariant.0 c.self.view_is c.args.from c.args.to _ _
    (subst (λ l. IsPoint c.args.from l c.count_before-start.result)
    c.as_slice.ensures.value c.count_before-start.ensures.is)
    (subst (λ l. IsPoint c.args.to l c.count_before-end.result)
    c.as_slice-2.ensures.value c.count_before-end.ensures.is)
    (omega arith)
