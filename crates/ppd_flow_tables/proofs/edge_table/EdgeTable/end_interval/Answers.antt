use Rattle.std.proofs.Common.{◌∙◌, List, ap, get_or, ℕ}
use Rattle.ppd_flow_tables.proofs.EdgePlaces.{innermost_found}
use Rattle.ppd_flow_tables.proofs.edge_table.EdgeTable.end_interval.Goals as goal

pub returns : goal.returns
returns c = λ entries h.
    c.number_at.ensures ∙ ap (λ (xs : List ℕ). get_or xs c.ending.result 0) c.as_slice.ensures
    ∙ innermost_found entries c.args.self.now h c.args.edge c.ending.result (c.ending.ensures entries h)
