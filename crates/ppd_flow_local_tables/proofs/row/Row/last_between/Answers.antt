use Rattle.std.proofs.Common.{◌≤◌, length, subst, arith}
use Rattle.ppd_flow_local_tables.proofs.RowLemmas.{IsPoint, last_is, last_none}
use Rattle.ppd_flow_local_tables.proofs.row.Row.last_between.Goals as goal

pub returns-then-start-end : goal.returns-then-start-end
returns-then-start-end g c =
    last_is _ _ _ c.self.invariant.0 c.self.view_is c.args.from c.args.to _ _
    (subst (λ l. IsPoint c.args.from l c.count_before-start.result)
    c.as_slice.ensures.value c.count_before-start.ensures.is)
    (subst (λ l. IsPoint c.args.to l c.count_before-end.result)
    c.as_slice-2.ensures.value c.count_before-end.ensures.is)
    (omega arith) (subst (λ l. c.count_before-end.result ≤ length l)
    c.as_slice-2.ensures.value c.count_before-end.ensures.within)
    _ _ c.index.ensures c.index-then-start-end.ensures

pub returns-else-start-end : goal.returns-else-start-end
returns-else-start-end g c =
    last_none _ _ _ c.self.invariant.0 c.self.view_is c.args.from c.args.to _ _
    (subst (λ l. IsPoint c.args.from l c.count_before-start.result)
    c.as_slice.ensures.value c.count_before-start.ensures.is)
    (subst (λ l. IsPoint c.args.to l c.count_before-end.result)
    c.as_slice-2.ensures.value c.count_before-end.ensures.is)
    (omega arith)
